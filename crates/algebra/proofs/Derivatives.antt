-- The Hasse derivative of a power is the coefficient of Y^s in (Y + x)^a, and of X^s in (X + x)^a.
-- Assumes nothing.
use mathlib.Core.List.{List, [], ◌∷◌}
use mathlib.Core.Path.{◌≡◌, refl, sym, ◌∙◌, ap, ap₂}
use Prim.Native.Nat.{ℕ, zero, suc}
use lib.ListN.{get_or}
use Rattle.definitions.specs.Field.{power}
use Rattle.definitions.specs.Polynomial.{derivative}
use Rattle.definitions.specs.Roots.{times, powers}
use Rattle.algebra.specs.Ring.{Ring}
use Rattle.algebra.proofs.Binomials.{derivative_zero_zero, derivative_zero_suc, derivative_suc_zero, derivative_suc_suc}
use Rattle.algebra.proofs.Polynomials.{coefficient_plus, coefficient_scaled}
use Rattle.algebra.proofs.RingLaws.{ring}
use Rattle.algebra.proofs.Series.{Series, linear, constant, linear_mul_zero, linear_mul_suc}

module _ (R : Ring) where
  open R.ops use {K, o, i, add as ◌⊕◌, mul as ◌⊗◌}

  infixl 60 ◌⊕◌
  infixl 70 ◌⊗◌
  -- the coefficients of the polynomial 0
  coefficient_o : (t : ℕ) → get_or (o ∷ []) t o ≡ o
  coefficient_o zero = refl
  coefficient_o (suc t) = refl

  -- the constant of Y + x times p
  coefficient_linear_zero : (x : K) (p : List K) → get_or (times R.ops (x ∷ i ∷ []) p) zero o ≡ x ⊗ get_or p zero o
  unfolding times
  coefficient_linear_zero x p = simp (coefficient_plus, coefficient_scaled, ring)

  -- its other coefficients
  coefficient_linear_suc : (x : K) (p : List K) (t : ℕ) → get_or (times R.ops (x ∷ i ∷ []) p) (suc t) o ≡ x ⊗ get_or p (suc t) o ⊕ get_or p t o
  unfolding times
  coefficient_linear_suc x p t = simp (coefficient_plus, coefficient_scaled, coefficient_o, ring)

  -- the Hasse derivative of x^a of order s is the coefficient of Y^s in (Y + x)^a
  pub derivative_is_coefficient : (a s : ℕ) (x : K) → get_or (powers R.ops (x ∷ i ∷ []) a) s o ≡ derivative R.ops a s x
  unfolding powers
  derivative_is_coefficient zero zero x = sym (derivative_zero_zero R x)
  derivative_is_coefficient zero (suc s) x = sym (derivative_zero_suc R s x)
  derivative_is_coefficient (suc a) zero x =
      coefficient_linear_zero x (powers R.ops (x ∷ i ∷ []) a) ∙ ap (λ (c : K). x ⊗ c) (derivative_is_coefficient a zero x)
      ∙ sym (derivative_suc_zero R a x)
  derivative_is_coefficient (suc a) (suc s) x =
      coefficient_linear_suc x (powers R.ops (x ∷ i ∷ []) a) s
      ∙ ap₂ (λ (c d : K). x ⊗ c ⊕ d) (derivative_is_coefficient a (suc s) x) (derivative_is_coefficient a s x) ∙ sym (derivative_suc_suc R a s x)

  -- and so it is of the power series (X + x)^a
  pub derivative_in_series : (a s : ℕ) (x : K) → power (Series R).ops (linear R x) a s ≡ derivative R.ops a s x
  unfolding power constant
  derivative_in_series zero zero x = sym (derivative_zero_zero R x)
  derivative_in_series zero (suc s) x = sym (derivative_zero_suc R s x)
  derivative_in_series (suc a) zero x =
      linear_mul_zero R x (power (Series R).ops (linear R x) a) ∙ ap (λ (c : K). x ⊗ c) (derivative_in_series a zero x) ∙ sym (derivative_suc_zero R a x)
  derivative_in_series (suc a) (suc s) x =
      linear_mul_suc R x (power (Series R).ops (linear R x) a) s
      ∙ ap₂ (λ (c d : K). x ⊗ c ⊕ d) (derivative_in_series a (suc s) x) (derivative_in_series a s x) ∙ sym (derivative_suc_suc R a s x)
