-- What the numbers of a verdict tell is the verdict.
-- Assumes nothing.
use mathlib.Core.List.{[], ◌∷◌}
use mathlib.Core.Path.{◌≡◌, refl}
use lib.ListN.{get_or}
use Rattle.std.specs.Prelude.{Result}
use Rattle.counter.specs.Verdict.{verdict_number, told_verdict}
use Rattle.counter.specs.declared.Verdict.{Verdict}
use Rattle.counter.specs.declared.Verdict.TheVariants.{Open, Ask, Nothing}
use Rattle.definitions.specs.Answers.{Answer, valued}
use Rattle.refusals.proofs.Unique.{one_told}
use Rattle.refusals.specs.declared.Refusal.{Refusal}

verdict_of : Answer → Verdict
verdict_of a = get_or (Nothing ∷ Open ∷ Ask ∷ []) a.value Nothing

verdict_back : (v : Verdict) → verdict_of (valued (verdict_number v)) ≡ v
unfolding verdict_of
verdict_back Open = refl
verdict_back Ask = refl
verdict_back Nothing = refl

pub one_verdict : {x y : Result Verdict Refusal} {a : Answer} → told_verdict x ≡ a → told_verdict y ≡ a → x ≡ y
one_verdict = one_told (λ v. valued (verdict_number v)) verdict_of (λ _. refl) verdict_back
