-- Hasse derivatives of a polynomial in two variables: they are the coefficients of Q(X + a, Y + b). Q(x, b + Y) is taken as a polynomial in Y
-- over power series in X.
-- Assumes nothing.
use mathlib.Core.List.{List, [], ◌∷◌, map}
use mathlib.Core.Path.{◌≡◌, sym, ◌∙◌, ap, ap₂}
use Prim.Native.Nat.{ℕ}
use lib.ListN.{get_or}
use Rattle.definitions.proofs.Codeword.{value_nil, value_cons}
use Rattle.definitions.specs.Field.{power, value}
use Rattle.definitions.specs.Polynomial.{Term, derivative, hasse}
use Rattle.definitions.specs.Roots.{plus, scaled, powers}
use Rattle.algebra.specs.Ring.{Ring}
use Rattle.algebra.proofs.Derivatives.{derivative_is_coefficient, derivative_in_series}
use Rattle.algebra.proofs.Carry.{carried, carry_derivative}
use Rattle.algebra.proofs.Composition.{value_at}
use Rattle.algebra.proofs.Polynomials.{value_plus, value_scaled, value_powers, coefficient_plus, coefficient_scaled}
use Rattle.algebra.proofs.RingLaws.{ring, times_comm}
use Rattle.algebra.proofs.Series.{Series, mul_s, constant, constants, linear, add_s_at, zero_s_at, constant_mul, mul_s_comm}

module _ (R : Ring) where
  open R.ops use {K, o, i, add as ◌⊕◌, mul as ◌⊗◌}

  infixl 60 ◌⊕◌
  infixl 70 ◌⊗◌
  -- Q(x, b + Y), as a polynomial in Y
  unfoldable pub around : K → K → List (Term R.ops) → List K
  around x b [] = []
  around x b (m ∷ q) = plus R.ops (scaled R.ops (m.0 ⊗ power R.ops x m.1) (powers R.ops (b ∷ i ∷ []) m.2)) (around x b q)

  -- the value of Y + b
  value_linear : (r b : K) → value R.ops r (b ∷ i ∷ []) ≡ b ⊕ r
  value_linear r b = simp (value_cons, value_nil, ring)

  -- its value at r is Q at (x, b + r)
  pub value_around : (x b r : K) (q : List (Term R.ops)) → value R.ops r (around x b q) ≡ value_at R x (b ⊕ r) q
  unfolding around value_at
  value_around x b r [] = value_nil R.ops r
  value_around x b r (m ∷ q) = simp (value_plus, value_scaled, value_powers, value_linear, value_around x b r q)

  -- the coefficient of Y^t in a term of Q(x, b + Y) and the rest
  coefficient_around : (x b : K) (m : Term R.ops) (q : List (Term R.ops)) (t : ℕ)
      → get_or (around x b (m ∷ q)) t o ≡ m.0 ⊗ power R.ops x m.1 ⊗ derivative R.ops m.2 t b ⊕ get_or (around x b q) t o
  unfolding around
  coefficient_around x b m q t =
      coefficient_plus R (scaled R.ops (m.0 ⊗ power R.ops x m.1) (powers R.ops (b ∷ i ∷ []) m.2)) (around x b q) t
      ∙ ap (λ (c : K). c ⊕ get_or (around x b q) t o)
      (coefficient_scaled R (m.0 ⊗ power R.ops x m.1) (powers R.ops (b ∷ i ∷ []) m.2) t
      ∙ ap (λ (c : K). m.0 ⊗ power R.ops x m.1 ⊗ c) (derivative_is_coefficient R m.2 t b))

module _ (A : Ring) where
  open A.ops use {K, o, i, add as ◌⊕◌, mul as ◌⊗◌}

  infixl 60 ◌⊕◌
  infixl 70 ◌⊗◌
  -- Q, its coefficients taken as power series
  abbrev pub in_series : List (Term A.ops) → List (Term (Series A).ops)
  in_series q = map (carried A.ops (Series A).ops (constants A)) q

  -- a coefficient of c f d, c and d constants
  between : (c d : K) (f : ℕ → K) (s : ℕ) → mul_s A (mul_s A (constant A c) f) (constant A d) s ≡ c ⊗ f s ⊗ d
  between c d f s =
      mul_s_comm A (mul_s A (constant A c) f) (constant A d) s ∙ constant_mul A d (mul_s A (constant A c) f) s
      ∙ ap (λ (x : K). d ⊗ x) (constant_mul A c f s) ∙ times_comm A d (c ⊗ f s)

  -- the polynomial without terms
  around_nil : (x b : ℕ → K) (t s : ℕ) → get_or (around (Series A) x b []) t (Series A).ops.o s ≡ o
  unfolding around
  around_nil x b t s = zero_s_at A s

  -- a single term
  hasse_of_term : (a b : K) (m : Term A.ops) (s t : ℕ)
      → mul_s A (mul_s A (constant A m.0) (power (Series A).ops (linear A a) m.1)) (derivative (Series A).ops m.2 t (constant A b)) s
      ≡ m.0 ⊗ derivative A.ops m.1 s a ⊗ derivative A.ops m.2 t b
  hasse_of_term a b m s t =
      ap (λ (d : ℕ → K). mul_s A (mul_s A (constant A m.0) (power (Series A).ops (linear A a) m.1)) d s)
      (sym (carry_derivative A.ops (Series A).ops (constants A) m.2 t b))
      ∙ between m.0 (derivative A.ops m.2 t b) (power (Series A).ops (linear A a) m.1) s
      ∙ ap (λ (x : K). m.0 ⊗ x ⊗ derivative A.ops m.2 t b) (derivative_in_series A m.1 s a)

  -- the coefficient of X^s Y^t in Q(X + a, Y + b) is the Hasse derivative of order (s, t) at (a, b)
  pub hasse_is_coefficient : (a b : K) (q : List (Term A.ops)) (s t : ℕ)
      → get_or (around (Series A) (linear A a) (constant A b) (in_series q)) t (Series A).ops.o s ≡ hasse A.ops q s t a b
  unfolding hasse
  hasse_is_coefficient a b [] s t = around_nil (linear A a) (constant A b) t s
  hasse_is_coefficient a b (m ∷ q) s t =
      ap (λ (u : ℕ → K). u s) (coefficient_around (Series A) (linear A a) (constant A b) (carried A.ops (Series A).ops (constants A) m) (in_series q) t)
      ∙ add_s_at A _ _ s
      ∙ ap₂ ◌⊕◌ (hasse_of_term a b m s t) (hasse_is_coefficient a b q s t)
