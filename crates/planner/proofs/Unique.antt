-- What the numbers of the planner's answer tell is the answer.
-- Assumes nothing.
use mathlib.Core.Path.{◌≡◌, refl}
use Rattle.std.specs.Prelude.{Result}
use Rattle.definitions.specs.Answers.{Answer}
use Rattle.definitions.specs.Planning.{planned}
use Rattle.planner.specs.Planned.{told_planned}
use Rattle.planner.specs.declared.Planned.{Planned}
use Rattle.refusals.proofs.Unique.{one_told}
use Rattle.refusals.specs.declared.Refusal.{Refusal}

pub one_planned : {x y : Result Planned Refusal} {a : Answer} → told_planned x ≡ a → told_planned y ≡ a → x ≡ y
one_planned = one_told (λ (p : Planned). planned p.count p.steps) (λ a. record { count = a.count; steps = a.value }) (λ _. refl) (λ _. refl)
