-- The numbers that documents 01 and 02 give to each case of the planner's answer.
-- Assumes nothing.
use Rattle.std.specs.Prelude.{Result}
use Rattle.definitions.specs.Answers.{Answer}
use Rattle.definitions.specs.Planning.{planned}
use Rattle.planner.specs.declared.Planned.{Planned}
use Rattle.refusals.specs.Told.{told}
use Rattle.refusals.specs.declared.Refusal.{Refusal}

abbrev pub told_planned : Result Planned Refusal → Answer
told_planned r = told (λ (p : Planned). planned p.count p.steps) r
