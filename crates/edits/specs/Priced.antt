-- The numbers that the documents give to each case of what an edit answers.
-- Assumes nothing.
use Rattle.std.specs.Prelude.{ℕ, Result}
use Rattle.definitions.specs.Answers.{Answer, costed}
use Rattle.refusals.specs.Told.{told}
use Rattle.refusals.specs.declared.Refusal.{Refusal}

-- the cost that the record then holds
abbrev pub told_priced : Result ℕ Refusal → Answer
told_priced r = told (λ cost. costed cost 0) r
