-- The numbers that document 01 gives to each case of the answer of cost and bound.
-- Assumes nothing.
use Rattle.std.specs.Prelude.{Result}
use Rattle.definitions.specs.Answers.{Answer, costed}
use Rattle.refusals.specs.Told.{told}
use Rattle.refusals.specs.declared.Refusal.{Refusal}
use Rattle.weights.specs.declared.Costs.{Costs}

abbrev pub told_costed : Result Costs Refusal → Answer
told_costed r = told (λ (c : Costs). costed c.cost c.bound) r
