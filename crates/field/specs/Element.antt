-- The numbers that document 01 gives to each case of the result of a field operation.
-- Assumes nothing.
use Rattle.std.specs.Prelude.{ℕ, Result}
use Rattle.definitions.specs.Answers.{Answer, valued}
use Rattle.refusals.specs.Told.{told}
use Rattle.refusals.specs.declared.Refusal.{Refusal}

abbrev pub told_element : Result ℕ Refusal → Answer
told_element r = told valued r
