-- What the numbers of the result of a field operation tell is the result.
-- Assumes nothing.
use mathlib.Core.Path.{◌≡◌, refl}
use Rattle.std.specs.Prelude.{ℕ, Result}
use Rattle.definitions.specs.Answers.{Answer, valued}
use Rattle.field.specs.Element.{told_element}
use Rattle.refusals.proofs.Unique.{one_told}
use Rattle.refusals.specs.declared.Refusal.{Refusal}

pub one_element : {x y : Result ℕ Refusal} {a : Answer} → told_element x ≡ a → told_element y ≡ a → x ≡ y
one_element = one_told valued (λ a. a.value) (λ _. refl) (λ _. refl)
