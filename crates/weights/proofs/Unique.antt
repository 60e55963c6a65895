-- What the numbers of the answer of cost and bound tell is the answer.
-- Assumes nothing.
use mathlib.Core.Path.{◌≡◌, refl}
use Rattle.std.specs.Prelude.{Result}
use Rattle.definitions.specs.Answers.{Answer, costed}
use Rattle.refusals.proofs.Unique.{one_told}
use Rattle.refusals.specs.declared.Refusal.{Refusal}
use Rattle.weights.specs.Costed.{told_costed}
use Rattle.weights.specs.declared.Costs.{Costs}

pub one_costed : {x y : Result Costs Refusal} {a : Answer} → told_costed x ≡ a → told_costed y ≡ a → x ≡ y
one_costed = one_told (λ (c : Costs). costed c.cost c.bound) (λ a. record { cost = a.cost; bound = a.bound }) (λ _. refl) (λ _. refl)
