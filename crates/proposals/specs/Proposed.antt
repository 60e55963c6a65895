-- The numbers that document 02 gives to each case of a check's result: "yes" or "a no".
-- Assumes nothing.
use Rattle.std.specs.Prelude.{Bool, cond, Result}
use Rattle.definitions.specs.Answers.{Answer, valued}
use Rattle.refusals.specs.Told.{told}
use Rattle.refusals.specs.declared.Refusal.{Refusal}

abbrev pub told_proposed : Result Bool Refusal → Answer
told_proposed r = told (λ (agreed : Bool). valued (cond agreed 1 0)) r
