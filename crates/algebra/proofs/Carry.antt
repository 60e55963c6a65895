-- A map that keeps sums and products carries every notion of the page of definitions with it. No law of a ring is used: so what is computed
-- on plain numbers is what the laws say of the elements that they stand for.
-- Assumes nothing.
use mathlib.Core.Bool.{Bool, true, false, cond}
use mathlib.Core.List.{List, [], ◌∷◌, map}
use mathlib.Core.Path.{◌≡◌, refl, ◌∙◌, ap, ap₂}
use Prim.Native.Nat.{ℕ, zero, suc, ◌-◌, ◌%◌}
use lib.Dec.{eqb}
use Rattle.definitions.specs.Field.{Ops, power, value}
use Rattle.definitions.specs.Polynomial.{Term, terms, binomial, modulo2, derivative, hasse}
use Rattle.definitions.specs.Roots.{plus, scaled, times, powers, compose}
use Rattle.algebra.specs.Ring.{Hom}

module _ (A R : Ops) (h : Hom A R) where
  open R use {K, o, i, add as ◌⊕◌, mul as ◌⊗◌}
  open h use {φ, φ_zero, φ_one, φ_add, φ_mul}

  infixl 60 ◌⊕◌
  infixl 70 ◌⊗◌
  -- a term, with its coefficient carried
  abbrev pub carried : Term A → Term R
  carried m = (φ m.0, m.1, m.2)

  -- powers
  pub carry_power : (x : A.K) (n : ℕ) → φ (power A x n) ≡ power R (φ x) n
  unfolding power
  carry_power x zero = φ_one
  carry_power x (suc n) = φ_mul x (power A x n) ∙ ap (λ (y : K). φ x ⊗ y) (carry_power x n)

  -- values of polynomials
  pub carry_value : (x : A.K) (p : List A.K) → φ (value A x p) ≡ value R (φ x) (map φ p)
  unfolding value
  carry_value x [] = φ_zero
  carry_value x (c ∷ p) =
      φ_add c (A.mul x (value A x p)) ∙ ap (λ (y : K). φ c ⊕ y) (φ_mul x (value A x p) ∙ ap (λ (y : K). φ x ⊗ y) (carry_value x p))

  -- one or zero, as a test says
  carry_cond : (b : Bool) → φ (cond b A.i A.o) ≡ cond b i o
  carry_cond true = φ_one
  carry_cond false = φ_zero

  -- numbers modulo 2
  carry_modulo2 : (n : ℕ) → φ (modulo2 A n) ≡ modulo2 R n
  unfolding modulo2
  carry_modulo2 n = carry_cond (eqb (n % 2) 1)

  -- Hasse derivatives of a power
  pub carry_derivative : (a s : ℕ) (x : A.K) → φ (derivative A a s x) ≡ derivative R a s (φ x)
  unfolding derivative
  carry_derivative a s x =
      φ_mul (modulo2 A (binomial a s)) (power A x (a - s)) ∙ ap₂ ◌⊗◌ (carry_modulo2 (binomial a s)) (carry_power x (a - s))

  -- Hasse derivatives of a polynomial in two variables
  pub carry_hasse : (q : List (Term A)) (s t : ℕ) (x y : A.K) → φ (hasse A q s t x y) ≡ hasse R (map carried q) s t (φ x) (φ y)
  unfolding hasse
  carry_hasse [] s t x y = φ_zero
  carry_hasse (m ∷ q) s t x y =
      φ_add (A.mul (A.mul m.0 (derivative A m.1 s x)) (derivative A m.2 t y)) (hasse A q s t x y)
      ∙ ap₂ ◌⊕◌
      (φ_mul (A.mul m.0 (derivative A m.1 s x)) (derivative A m.2 t y)
      ∙ ap₂ ◌⊗◌ (φ_mul m.0 (derivative A m.1 s x) ∙ ap (λ (z : K). φ m.0 ⊗ z) (carry_derivative m.1 s x)) (carry_derivative m.2 t y))
      (carry_hasse q s t x y)

  -- terms
  pub carry_terms : (q : List A.K) (l : List (ℕ × ℕ)) → map carried (terms A q l) ≡ terms R (map φ q) l
  unfolding terms
  carry_terms [] l = refl
  carry_terms (c ∷ q) [] = refl
  carry_terms (c ∷ q) (m ∷ l) = ap (λ (k : List (Term R)). (φ c, m.0, m.1) ∷ k) (carry_terms q l)

  -- sums of polynomials
  pub carry_plus : (p q : List A.K) → map φ (plus A p q) ≡ plus R (map φ p) (map φ q)
  unfolding plus
  carry_plus [] q = refl
  carry_plus (c ∷ p) [] = refl
  carry_plus (c ∷ p) (d ∷ q) = ap₂ (λ (x : K) (l : List K). x ∷ l) (φ_add c d) (carry_plus p q)

  -- multiples of polynomials
  pub carry_scaled : (c : A.K) (q : List A.K) → map φ (scaled A c q) ≡ scaled R (φ c) (map φ q)
  unfolding scaled
  carry_scaled c [] = refl
  carry_scaled c (d ∷ q) = ap₂ (λ (x : K) (l : List K). x ∷ l) (φ_mul c d) (carry_scaled c q)

  -- products of polynomials
  pub carry_times : (p q : List A.K) → map φ (times A p q) ≡ times R (map φ p) (map φ q)
  unfolding times
  carry_times [] q = refl
  carry_times (c ∷ p) q =
      carry_plus (scaled A c q) (A.o ∷ times A p q)
      ∙ ap₂ (plus R) (carry_scaled c q) (ap₂ (λ (x : K) (l : List K). x ∷ l) φ_zero (carry_times p q))

  -- powers of polynomials
  pub carry_powers : (p : List A.K) (n : ℕ) → map φ (powers A p n) ≡ powers R (map φ p) n
  unfolding powers
  carry_powers p zero = ap (λ (x : K). x ∷ []) φ_one
  carry_powers p (suc n) = carry_times p (powers A p n) ∙ ap (times R (map φ p)) (carry_powers p n)

  -- powers of x
  carry_x : (n : ℕ) → map φ (powers A (A.o ∷ A.i ∷ []) n) ≡ powers R (o ∷ i ∷ []) n
  carry_x n = carry_powers (A.o ∷ A.i ∷ []) n ∙ ap (λ (l : List K). powers R l n) (ap₂ (λ (x y : K). x ∷ y ∷ []) φ_zero φ_one)

  -- one term of Q(x, f(x))
  carry_term : (f : List A.K) (m : Term A)
      → map φ (scaled A m.0 (times A (powers A (A.o ∷ A.i ∷ []) m.1) (powers A f m.2)))
      ≡ scaled R (φ m.0) (times R (powers R (o ∷ i ∷ []) m.1) (powers R (map φ f) m.2))
  carry_term f m =
      carry_scaled m.0 (times A (powers A (A.o ∷ A.i ∷ []) m.1) (powers A f m.2))
      ∙ ap (scaled R (φ m.0))
      (carry_times (powers A (A.o ∷ A.i ∷ []) m.1) (powers A f m.2) ∙ ap₂ (times R) (carry_x m.1) (carry_powers f m.2))

  -- Q(x, f(x))
  pub carry_compose : (f : List A.K) (q : List (Term A)) → map φ (compose A f q) ≡ compose R (map φ f) (map carried q)
  unfolding compose
  carry_compose f [] = refl
  carry_compose f (m ∷ q) =
      carry_plus (scaled A m.0 (times A (powers A (A.o ∷ A.i ∷ []) m.1) (powers A f m.2))) (compose A f q)
      ∙ ap₂ (plus R) (carry_term f m) (carry_compose f q)
