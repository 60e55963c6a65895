-- What the numbers of the check's answer tell is the answer.
-- Assumes nothing.
use mathlib.Core.Bool.{Bool, true, false, cond}
use mathlib.Core.Path.{◌≡◌, refl}
use lib.Dec.{eqb}
use Rattle.std.specs.Prelude.{Result}
use Rattle.definitions.specs.Answers.{Answer, valued}
use Rattle.proposals.specs.Proposed.{told_proposed}
use Rattle.refusals.proofs.Unique.{one_told}
use Rattle.refusals.specs.declared.Refusal.{Refusal}

-- yes is had back from its value
agreed_back : (b : Bool) → eqb (valued (cond b 1 0)).value 1 ≡ b
agreed_back true = refl
agreed_back false = refl

pub one_proposed : {x y : Result Bool Refusal} {a : Answer} → told_proposed x ≡ a → told_proposed y ≡ a → x ≡ y
one_proposed = one_told (λ (b : Bool). valued (cond b 1 0)) (λ a. eqb a.value 1) (λ _. refl) agreed_back
