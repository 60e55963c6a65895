-- The laws of count and bound: the count grows with the degree, and the bound is the smallest degree whose count is above C.
-- Assumes nothing.
use mathlib.Core.Logic.{◌⊎◌, inl, inr, ⊎_elim}
use mathlib.Core.Path.{◌≡◌}
use Prim.Native.Nat.{ℕ, zero, suc, ◌+◌, ◌-◌, ◌*◌, ◌/◌, ◌≤◌, ◌<◌}
use native.Mathlib.Decide.{dec_lt}
use native.Mathlib.Nat.{not-suc-le-zero, zero-div, mul-div-le, lt-mul-div-succ, lt_of_mul-lt-mul_left, mul-le-mul_left}
use native.Mathlib.Omega.{arith}
use borrow.Author.Tests.{ltb-true, ltb-false}
use Rattle.definitions.specs.Bound.{count, bound}
use Rattle.definitions.specs.Tools.{sum}
use Rattle.definitions.proofs.Tools.{sum_zero, sum_suc, sum_one, smallest_le, smallest_fails, smallest_passes}

-- each term one more, the sum n more
sum_more : (n : ℕ) (f g : ℕ → ℕ) → ((j : ℕ) → j < n → g j ≡ f j + 1) → sum n g ≡ sum n f + n
sum_more zero f g h = rw (sum_zero f, sum_zero g)
sum_more (suc n) f g h =
    let r = sum_more n f g (λ j l. h j (omega arith)) in
    let s = h n (omega arith) in
    rw (sum_suc n f, sum_suc n g) (omega arith)

module _ (v : ℕ) (pos : 1 ≤ v) where
  -- the next degree's power of y is the same, or one more, and then v times it is the degree
  next_power : (D : ℕ) → (suc D / v ≡ D / v) ⊎ ((suc D / v ≡ suc (D / v)) × (v * suc (D / v) ≡ suc D))
  next_power D =
      let a = mul-div-le D v in
      let b = lt-mul-div-succ D pos in
      let c = mul-div-le (suc D) v in
      let d = lt-mul-div-succ (suc D) pos in
      let e : D / v < suc D / v + 1 = lt_of_mul-lt-mul_left v (omega arith) in
      let f : suc D / v < D / v + 2 = lt_of_mul-lt-mul_left v (omega arith) in
      elim (dec_lt (D / v) (suc D / v)) [
        | yes l ↦ let g : suc D / v ≡ suc (D / v) = omega arith in inr (g, let i : v * (suc D / v) ≡ v * suc (D / v) = rw g in omega arith)
        | no n ↦ inl (omega arith)
      ]

  -- of degree 0 there is one monomial
  pub count_zero : count v 0 ≡ 1
  count_zero = rw (zero-div v, sum_one) (omega arith)

  -- up to the power of y of degree D each power gains one monomial
  each_gains : (D : ℕ) → sum (D / v + 1) (λ (b : ℕ). suc D + 1 - v * b) ≡ count v D + (D / v + 1)
  each_gains D =
      sum_more (D / v + 1) (λ (b : ℕ). D + 1 - v * b) (λ (b : ℕ). suc D + 1 - v * b)
      (λ j l.
      let a = mul-div-le D v in
      let c : v * j ≤ v * (D / v) = mul-le-mul_left v (omega arith) in
      omega arith)

  -- degree D + 1 brings a monomial for each power of y from 0 to the whole part of (D + 1)/v
  pub count_suc : (D : ℕ) → count v (suc D) ≡ count v D + (suc D / v + 1)
  count_suc D =
      ⊎_elim (λ e. rw e (each_gains D))
      (λ e.
      let t : suc (D / v) + 1 ≡ suc (D / v + 1) = omega arith in
      let k = e.1 in
      rw (e.0, t, sum_suc (D / v + 1) (λ (b : ℕ). suc D + 1 - v * b), each_gains D) (omega arith))
      (next_power D)

  -- a greater degree, more monomials
  pub count_grows : (D E : ℕ) → D < E → count v D < count v E
  count_grows D zero h = absurd (not-suc-le-zero h)
  count_grows D (suc E) h =
      let s = count_suc E in
      elim (dec_lt D E) [
        | yes l ↦ let r = count_grows D E l in omega arith
        | no n ↦ let e : D ≡ E = omega arith in rw e (omega arith)
      ]

  pub count_no_less : (D E : ℕ) → D ≤ E → count v D ≤ count v E
  count_no_less D E h =
      elim (dec_lt D E) [
        | yes l ↦ let more = count_grows D E l in omega arith
        | no n ↦ let e : D ≡ E = omega arith in rw e (omega arith)
      ]

  -- there are more than D monomials up to degree D: one for each power of x
  pub count_above : (D : ℕ) → D < count v D
  count_above zero = rw count_zero (omega arith)
  count_above (suc D) = let r = count_above D in let s = count_suc D in omega arith

  -- the bound is never above the cost
  pub bound_le : (C : ℕ) → bound v C ≤ C
  bound_le C = smallest_le _ C

  -- the bound is the smallest D with N(D) > C
  pub bound_is_least : (C : ℕ) → (C < count v (bound v C)) × ((D : ℕ) → D < bound v C → count v D ≤ C)
  bound_is_least C = (
    elim (dec_lt (bound v C) C) [
      | yes l ↦ ltb-true C (count v (bound v C)) (smallest_passes _ C l)
      | no n ↦ let e : bound v C ≡ C = (let b = bound_le C in omega arith) in rw e (count_above C)
    ],
    λ D l. ltb-false C (count v D) (smallest_fails _ C D l),
  )

  -- so it is at most D where N(D) is above C
  pub bound_at_most : (C D : ℕ) → C < count v D → bound v C ≤ D
  bound_at_most C D h =
      elim (dec_lt D (bound v C)) [
        | yes l ↦ let few = (bound_is_least C).1 D l in let z : ⊥ = omega arith in absurd z
        | no n ↦ omega arith
      ]

  -- and above D where it is not
  pub bound_above : (C D : ℕ) → count v D ≤ C → D < bound v C
  bound_above C D h =
      elim (dec_lt D (bound v C)) [
        | yes l ↦ l
        | no n ↦ let most = (bound_is_least C).0 in let less = count_no_less (bound v C) D (omega arith) in let z : ⊥ = omega arith in absurd z
      ]
