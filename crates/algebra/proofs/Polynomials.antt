-- Polynomials as lists of coefficients, the constant first: their value takes sums to sums, products to products and powers to powers; how
-- long they are; and the coefficients of sums and multiples.
-- Assumes nothing.
use mathlib.Core.List.{List, [], ◌∷◌}
use mathlib.Core.Path.{◌≡◌, refl, sym, ap}
use Prim.Native.Nat.{ℕ, zero, suc, ◌+◌, ◌≤◌, ◌<◌}
use native.Mathlib.Nat.{le_of_suc-le-suc, not-suc-le-zero}
use native.Mathlib.Omega.{arith}
use lib.ListN.{length, get_or}
use Rattle.definitions.proofs.Codeword.{power_zero, power_suc, value_nil, value_cons}
use Rattle.definitions.specs.Field.{Ops, power, value}
use Rattle.definitions.specs.Roots.{plus, scaled, times, powers}
use Rattle.algebra.specs.Ring.{Ring}
use Rattle.algebra.proofs.RingLaws.{ring, plus_zero, zero_plus, times_zero}

module _ (A : Ops) where
  open A use {K, o, i, add as ◌⊕◌, mul as ◌⊗◌}

  infixl 60 ◌⊕◌
  infixl 70 ◌⊗◌
  -- a sum is no longer than its longer summand
  pub length_plus : (p q : List K) (n : ℕ) → length p ≤ n → length q ≤ n → length (plus A p q) ≤ n
  unfolding plus
  length_plus [] q n hp hq = hq
  length_plus (c ∷ p) [] n hp hq = hp
  length_plus (c ∷ p) (d ∷ q) zero hp hq = absurd (not-suc-le-zero hp)
  length_plus (c ∷ p) (d ∷ q) (suc n) hp hq = let h = length_plus p q n (le_of_suc-le-suc hp) (le_of_suc-le-suc hq) in omega arith

  -- and as long as the second, where that is no shorter
  pub length_sum : (p q : List K) → length p ≤ length q → length (plus A p q) ≡ length q
  unfolding plus
  length_sum [] q h = refl
  length_sum (c ∷ p) [] h = absurd (not-suc-le-zero h)
  length_sum (c ∷ p) (d ∷ q) h = ap suc (length_sum p q (le_of_suc-le-suc h))

  -- of lists of one length its entries are the sums
  pub plus_at : (p q : List K) (k : ℕ) → length p ≡ length q → k < length q → get_or (plus A p q) k o ≡ get_or p k o ⊕ get_or q k o
  unfolding plus
  plus_at p [] k e h = absurd (not-suc-le-zero h)
  plus_at [] (d ∷ q) k e h = let z : ⊥ = omega arith in absurd z
  plus_at (c ∷ p) (d ∷ q) zero e h = refl
  plus_at (c ∷ p) (d ∷ q) (suc k) e h = plus_at p q k (omega arith) (le_of_suc-le-suc h)

  -- a multiple is as long
  pub length_scaled : (c : K) (q : List K) → length (scaled A c q) ≡ length q
  unfolding scaled
  length_scaled c [] = refl
  length_scaled c (d ∷ q) = ap suc (length_scaled c q)

  -- and its entries are the multiples
  pub scaled_at : (c : K) (q : List K) (k : ℕ) → k < length q → get_or (scaled A c q) k o ≡ c ⊗ get_or q k o
  unfolding scaled
  scaled_at c [] k h = absurd (not-suc-le-zero h)
  scaled_at c (d ∷ q) zero h = refl
  scaled_at c (d ∷ q) (suc k) h = scaled_at c q k (le_of_suc-le-suc h)

  -- degrees of a product add up
  pub length_times : (p q : List K) (a b : ℕ) → length p ≤ suc a → length q ≤ suc b → length (times A p q) ≤ suc (a + b)
  unfolding times
  length_times [] q a b hp hq = omega arith
  length_times (c ∷ []) q a b hp hq = length_plus (scaled A c q) (o ∷ []) (suc (a + b)) (omega (arith, length_scaled c q)) (omega arith)
  length_times (c ∷ d ∷ p) q zero b hp hq = absurd (not-suc-le-zero (le_of_suc-le-suc hp))
  length_times (c ∷ d ∷ p) q (suc a) b hp hq =
      let h = length_times (d ∷ p) q a b (le_of_suc-le-suc hp) hq in
      length_plus (scaled A c q) (o ∷ times A (d ∷ p) q) (suc (suc a + b)) (omega (arith, length_scaled c q)) (omega arith)

module _ (R : Ring) where
  open R.ops use {K, o, i, add as ◌⊕◌, mul as ◌⊗◌}

  infixl 60 ◌⊕◌
  infixl 70 ◌⊗◌
  -- the value of a sum
  pub value_plus : (x : K) (p q : List K) → value R.ops x (plus R.ops p q) ≡ value R.ops x p ⊕ value R.ops x q
  unfolding plus
  value_plus x [] q = simp (value_nil, ring)
  value_plus x (c ∷ p) [] = simp (value_nil, ring)
  value_plus x (c ∷ p) (d ∷ q) = simp (value_cons, value_plus x p q, ring)

  -- one coefficient more
  scaled_step : (x c d v w : K) → w ≡ c ⊗ v → c ⊗ d ⊕ x ⊗ w ≡ c ⊗ (d ⊕ x ⊗ v)
  scaled_step x c d v w e = rw e (simp ring)

  -- the value of a multiple
  pub value_scaled : (x c : K) (q : List K) → value R.ops x (scaled R.ops c q) ≡ c ⊗ value R.ops x q
  unfolding scaled
  value_scaled x c [] = simp (value_nil, ring)
  value_scaled x c (d ∷ q) =
      simp value_cons (scaled_step x c d (value R.ops x q) (value R.ops x (scaled R.ops c q)) (value_scaled x c q))

  -- the value of a product
  pub value_times : (x : K) (p q : List K) → value R.ops x (times R.ops p q) ≡ value R.ops x p ⊗ value R.ops x q
  unfolding times
  value_times x [] q = simp (value_nil, ring)
  value_times x (c ∷ p) q = simp (value_plus, value_scaled, value_cons, value_times x p q, ring)

  -- the value of a power
  pub value_powers : (x : K) (p : List K) (n : ℕ) → value R.ops x (powers R.ops p n) ≡ power R.ops (value R.ops x p) n
  unfolding powers
  value_powers x p zero = simp (value_cons, value_nil, power_zero, ring)
  value_powers x p (suc n) = simp (value_times, value_powers x p n, power_suc)

  -- the coefficients of a sum
  pub coefficient_plus : (p q : List K) (t : ℕ) → get_or (plus R.ops p q) t o ≡ get_or p t o ⊕ get_or q t o
  unfolding plus
  coefficient_plus [] q t = sym (zero_plus R (get_or q t o))
  coefficient_plus (c ∷ p) [] t = sym (plus_zero R (get_or (c ∷ p) t o))
  coefficient_plus (c ∷ p) (d ∷ q) zero = refl
  coefficient_plus (c ∷ p) (d ∷ q) (suc t) = coefficient_plus p q t

  -- the coefficients of a multiple
  pub coefficient_scaled : (c : K) (q : List K) (t : ℕ) → get_or (scaled R.ops c q) t o ≡ c ⊗ get_or q t o
  unfolding scaled
  coefficient_scaled c [] t = sym (times_zero R c)
  coefficient_scaled c (d ∷ q) zero = refl
  coefficient_scaled c (d ∷ q) (suc t) = coefficient_scaled c q t
