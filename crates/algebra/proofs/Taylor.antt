-- The Taylor shift p(X + a) as a power series, whose order is the multiplicity of the root a, and division by x + a.
-- Assumes nothing.
use mathlib.Core.List.{List, [], ◌∷◌, map}
use mathlib.Core.Path.{◌≡◌, refl, sym, ◌∙◌, ap, ap₂}
use Prim.Native.Nat.{ℕ, zero, suc}
use lib.ListN.{length}
use Rattle.definitions.proofs.Codeword.{value_nil, value_cons}
use Rattle.definitions.specs.Field.{Ops, value}
use Rattle.algebra.specs.Ring.{Ring, Hom}
use Rattle.algebra.proofs.Carry.{carry_value}
use Rattle.algebra.proofs.Evaluation.{evaluate}
use Rattle.algebra.proofs.RingLaws.{ring, zero_plus}
use Rattle.algebra.proofs.Series.{Series, series, add_s, mul_s, constant, constants, linear, linear_add, constant_o}

module _ (A : Ops) where
  open A use {K}

  -- the quotient of c ∷ p by x + a, for any c
  unfoldable pub quotient : K → List K → List K
  quotient a [] = []
  quotient a (d ∷ p) = value A a (d ∷ p) ∷ quotient a p

  -- it is one shorter than what is divided
  pub length_quotient : (a : K) (p : List K) → length (quotient a p) ≡ length p
  unfolding quotient
  length_quotient a [] = refl
  length_quotient a (d ∷ p) = ap suc (length_quotient a p)

module _ (A R : Ops) (h : Hom A R) where
  open h use {φ}

  -- a map that keeps sums and products carries it
  carry_quotient : (a : A.K) (p : List A.K) → map φ (quotient A a p) ≡ quotient R (φ a) (map φ p)
  unfolding quotient
  carry_quotient a [] = refl
  carry_quotient a (d ∷ p) = ap₂ (λ (x : R.K) (l : List R.K). x ∷ l) (carry_value A R h a (d ∷ p)) (carry_quotient a p)

module _ (R : Ring) where
  open R.ops use {K, o, i, add as ◌⊕◌, mul as ◌⊗◌}

  infixl 60 ◌⊕◌
  infixl 70 ◌⊗◌
  -- one coefficient more
  remainder_step : (r a c v w : K) → c ⊕ r ⊗ (v ⊕ (r ⊕ a) ⊗ w) ≡ (c ⊕ a ⊗ v) ⊕ (r ⊕ a) ⊗ (v ⊕ r ⊗ w)
  remainder_step r a c v w = simp ring

  -- p(r) is p(a) and r + a times the quotient's value
  pub remainder : (r a c : K) (p : List K)
      → value R.ops r (c ∷ p) ≡ value R.ops a (c ∷ p) ⊕ (r ⊕ a) ⊗ value R.ops r (quotient R.ops a p)
  unfolding quotient
  remainder r a c [] = simp (value_cons, value_nil, ring)
  remainder r a c (d ∷ p) =
      value_cons R.ops r c (d ∷ p) ∙ ap (λ (x : K). c ⊕ r ⊗ x) (remainder r a d p)
      ∙ remainder_step r a c (value R.ops a (d ∷ p)) (value R.ops r (quotient R.ops a p))
      ∙ ap₂ (λ (x y : K). x ⊕ (r ⊕ a) ⊗ y) (sym (value_cons R.ops a c (d ∷ p)))
      (sym (value_cons R.ops r (value R.ops a (d ∷ p)) (quotient R.ops a p)))

module _ (R : Ring) where
  open R.ops use {K, o, add as ◌⊕◌}

  infixl 60 ◌⊕◌
  -- p(X + a)
  unfoldable pub taylor : K → List K → ℕ → K
  taylor a p = evaluate R (Series R) (constants R) (linear R a) p

  -- its constant is p(a)
  pub taylor_zero : (a : K) (p : List K) → taylor a p zero ≡ value R.ops a p
  unfolding taylor
  taylor_zero a [] = ap (λ (s : ℕ → K). s zero) (value_nil (Series R).ops (linear R a)) ∙ simp (series, value_nil)
  taylor_zero a (c ∷ p) =
      ap (λ (s : ℕ → K). s zero) (value_cons (Series R).ops (linear R a) (constant R c) (map (constant R) p))
      ∙ simp (series, taylor_zero a p, value_cons)

  -- where p(a) is zero, p(X + c) is X + c + a times the quotient's
  pub taylor_quotient : (a c d : K) (p : List K) → value R.ops a (d ∷ p) ≡ o
      → taylor c (d ∷ p) ≡ mul_s R (linear R (c ⊕ a)) (taylor c (quotient R.ops a p))
  unfolding taylor
  taylor_quotient a c d p e =
      remainder (Series R) (linear R c) (constant R a) (constant R d) (map (constant R) p)
      ∙ ap₂ (λ (u v : ℕ → K). add_s R u (mul_s R v (value (Series R).ops (linear R c) (quotient (Series R).ops (constant R a) (map (constant R) p)))))
      (sym (carry_value R.ops (Series R).ops (constants R) a (d ∷ p)) ∙ ap (constant R) e ∙ constant_o R) (linear_add R c a)
      ∙ zero_plus (Series R) (mul_s R (linear R (c ⊕ a)) (value (Series R).ops (linear R c) (quotient (Series R).ops (constant R a) (map (constant R) p))))
      ∙ ap (λ (l : List (ℕ → K)). mul_s R (linear R (c ⊕ a)) (value (Series R).ops (linear R c) l))
      (sym (carry_quotient R.ops (Series R).ops (constants R) a p))
