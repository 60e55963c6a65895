-- The first number above the greatest is found in order.
-- Assumes nothing.
use mathlib.Core.Bool.{Bool, cond}
use mathlib.Core.List.{List, [], ◌∷◌}
use mathlib.Core.Path.{◌≡◌, refl, ap}
use Prim.Native.Nat.{ℕ, zero, suc, ◌+◌, ◌≤◌, ◌<◌}
use native.Mathlib.Decide.{dec_lt}
use native.Mathlib.Nat.{le_of_suc-le-suc, not-suc-le-zero}
use native.Mathlib.Numerals.{add-one}
use native.Mathlib.Omega.{arith}
use borrow.Author.Tests.{lt-ltb, le-ltb}
use lib.ListN.{length, get_or, drop, drop_of_length-le, get_or-eq_default}
use lib.Seq.{drop-cons}
use Rattle.definitions.specs.Refusals.{first_above}

module _ (greatest : ℕ) where
  -- in an empty list there is none
  first_nil : first_above greatest [] ≡ 0
  unfolding first_above
  first_nil = refl

  -- a number that is not above is passed over
  first_step : (x : ℕ) (l : List ℕ) → x ≤ greatest → first_above greatest (x ∷ l) ≡ suc (first_above greatest l)
  unfolding first_above
  first_step x l h = ap (λ (t : Bool). cond t 0 (suc (first_above greatest l))) (le-ltb greatest x h)

  -- a number that is above is the first
  first_stop : (x : ℕ) (l : List ℕ) → greatest < x → first_above greatest (x ∷ l) ≡ 0
  unfolding first_above
  first_stop x l h = ap (λ (t : Bool). cond t 0 (suc (first_above greatest l))) (lt-ltb greatest x h)

  -- from place i on: it is there
  pub first_above_stop : (l : List ℕ) (i : ℕ) → i < length l → greatest < get_or l i 0 → first_above greatest (drop i l) ≡ 0
  first_above_stop l i h g = rw (drop-cons l i 0 h) (first_stop (get_or l i 0) (drop (suc i) l) g)

  -- it is not there, and is looked for from the next place on
  pub first_above_step : (l : List ℕ) (i : ℕ) → i < length l → get_or l i 0 ≤ greatest → first_above greatest (drop i l) ≡ suc (first_above greatest (drop (i + 1) l))
  first_above_step l i h g = rw (add-one, drop-cons l i 0 h) (first_step (get_or l i 0) (drop (suc i) l) g)

  -- there is no place left
  pub first_above_end : (l : List ℕ) (i : ℕ) → length l ≤ i → first_above greatest (drop i l) ≡ 0
  first_above_end l i h = rw (drop_of_length-le l h) first_nil

  -- what stands there is above
  pub first_above_lem : (l : List ℕ) → first_above greatest l < length l → greatest < get_or l (first_above greatest l) 0
  first_above_lem [] h = absurd (not-suc-le-zero h)
  first_above_lem (x ∷ l) h =
      elim (dec_lt greatest x) [
        | yes a ↦ rw (first_stop x l a) a
        | no n ↦
            let e = first_step x l (omega arith) in
            rw e (first_above_lem l (le_of_suc-le-suc (rw e at h)))
      ]

  -- it is looked for up to the end
  pub first_within : (l : List ℕ) → first_above greatest l ≤ length l
  first_within [] = rw first_nil (omega arith)
  first_within (x ∷ l) =
      elim (dec_lt greatest x) [
        | yes a ↦ rw (first_stop x l a) (omega arith)
        | no n ↦ (let r = first_within l in rw (first_step x l (omega arith)) (omega arith))
      ]

  -- what stands before it is not
  pub before_above : (l : List ℕ) (j : ℕ) → j < first_above greatest l → get_or l j 0 ≤ greatest
  before_above [] j h = omega arith
  before_above (x ∷ l) zero h =
      elim (dec_lt greatest x) [
        | yes a ↦ absurd (not-suc-le-zero (rw (first_stop x l a) at h))
        | no n ↦ omega arith
      ]
  before_above (x ∷ l) (suc j) h =
      elim (dec_lt greatest x) [
        | yes a ↦ absurd (not-suc-le-zero (rw (first_stop x l a) at h))
        | no n ↦ before_above l j (le_of_suc-le-suc (rw (first_step x l (omega arith)) at h))
      ]

  -- where it lies at the end, no number is above
  pub none_above_lem : (l : List ℕ) → length l ≤ first_above greatest l → (j : ℕ) → get_or l j 0 ≤ greatest
  none_above_lem l h j =
      elim (dec_lt j (length l)) [
        | yes a ↦ before_above l j (omega arith)
        | no n ↦ rw (get_or-eq_default l 0 {n = j} (omega arith)) (omega arith)
      ]
