-- The laws of the leading monomial's place.
-- Assumes nothing.
use mathlib.Core.Bool.{Bool, true, false, cond, ◌&&◌, true≢false}
use mathlib.Core.List.{List, [], ◌∷◌}
use mathlib.Core.Path.{◌≡◌, refl, sym, ◌∙◌, ap}
use Prim.Native.Nat.{ℕ, zero, suc, ◌<◌}
use native.Mathlib.Decide.{dec_lt}
use native.Mathlib.Nat.{le_of_suc-le-suc, not-suc-le-zero}
use native.Mathlib.Omega.{arith}
use lib.Dec.{eqb}
use lib.ListN.{get_or}
use Rattle.definitions.proofs.Tools.{split}
use Rattle.definitions.proofs.Zeros.{is_zero_nil, zeros_of_is_zero, is_zero_false}
use Rattle.definitions.specs.Polynomial.{is_zero, leading}

-- a zero before zeros
cons_zero : (c : ℕ) (q : List ℕ) → c ≡ 0 → is_zero q ≡ true → is_zero (c ∷ q) ≡ true
unfolding is_zero
cons_zero c q g f = ap (λ (x : ℕ). eqb x 0 && is_zero q) g ∙ f

-- the first coefficient leads where all after it are zero
leading_last : (c : ℕ) (q : List ℕ) → is_zero q ≡ true → leading (c ∷ q) ≡ 0
unfolding leading
leading_last c q e = ap (λ (b : Bool). cond b 0 (suc (leading q))) e

-- else one of those after it does
leading_later : (c : ℕ) (q : List ℕ) → is_zero q ≡ false → leading (c ∷ q) ≡ suc (leading q)
unfolding leading
leading_later c q e = ap (λ (b : Bool). cond b 0 (suc (leading q))) e

-- after the leading monomial every coefficient is zero
pub zero_after : (q : List ℕ) (k : ℕ) → leading q < k → get_or q k 0 ≡ 0
zero_after [] k h = refl
zero_after (c ∷ q) zero h = absurd (not-suc-le-zero h)
zero_after (c ∷ q) (suc k) h =
    split (is_zero q) (λ e. zeros_of_is_zero q e k)
    (λ e. zero_after q k (le_of_suc-le-suc (rw (leading_later c q e) at h)))

-- its own is not, where not all are
pub leading_nonzero : (q : List ℕ) → is_zero q ≡ false → get_or q (leading q) 0 ≡ 0 → ⊥
leading_nonzero [] e z = true≢false (sym is_zero_nil ∙ e)
leading_nonzero (c ∷ q) e z =
    split (is_zero q)
    (λ f. true≢false (sym (cons_zero c q (rw (leading_last c q f) at z) f) ∙ e))
    (λ f. leading_nonzero q f (rw (leading_later c q f) at z))

-- a place whose coefficient is not zero, with zeros after it, is the leading one
pub leading_is : (q : List ℕ) (j : ℕ) → (get_or q j 0 ≡ 0 → ⊥) → ((k : ℕ) → j < k → get_or q k 0 ≡ 0) → leading q ≡ j
leading_is q j n z =
    elim (dec_lt (leading q) j) [
      | yes h ↦ absurd (n (zero_after q j h))
      | no l ↦
          elim (dec_lt j (leading q)) [
            | yes h ↦ absurd (leading_nonzero q (is_zero_false q j n) (z (leading q) h))
            | no f ↦ omega arith
          ]
    ]
