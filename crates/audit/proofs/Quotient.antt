-- A polynomial in x and y is y + f(x) times a quotient, and Q(x, f(x)): in any algebra over the coefficients, at any x and y.
-- Assumes nothing.
use mathlib.Core.List.{List, [], ◌∷◌, ◌++◌, map}
use mathlib.Core.Path.{◌≡◌, refl, sym, ◌∙◌, ap, ap₂}
use Prim.Native.Nat.{ℕ, zero, suc}
use Rattle.algebra.proofs.Carry.{carried}
use Rattle.algebra.proofs.Composition.{value_at}
use Rattle.algebra.proofs.Evaluation.{evaluate}
use Rattle.algebra.proofs.RingLaws.{ring, plus_assoc, zero_plus, times_plus}
use Rattle.algebra.specs.Ring.{Ring, Hom}
use Rattle.audit.specs.Factors.{times_y, times_x, times_constant, times_of, times_factor}
use Rattle.definitions.proofs.Codeword.{power_zero, power_suc, value_nil, value_cons}
use Rattle.definitions.specs.Field.{Ops, power}
use Rattle.definitions.specs.Polynomial.{Term}

module _ (A : Ops) where
  open A use {K}

  -- the quotient of c x^a y^b by y + f(x): c x^a (y^(b - 1) + y^(b - 2) f + .. + f^(b - 1))
  pub divided : List K → K → ℕ → ℕ → List (Term A)
  divided f c a zero = []
  divided f c a (suc b) = (c, a, b) ∷ times_of A f (divided f c a b)

  -- and of a polynomial, term by term
  pub quotient_by : List K → List (Term A) → List (Term A)
  quotient_by f [] = []
  quotient_by f (m ∷ q) = divided f m.0 m.1 m.2 ++ quotient_by f q

module _ (A T : Ring) (h : Hom A.ops T.ops) (x y : T.ops.K) where
  open T.ops use {K, o, i, add as ◌⊕◌, mul as ◌⊗◌}
  open h use {φ, φ_mul}

  infixl 60 ◌⊕◌
  infixl 70 ◌⊗◌
  abbrev S : Ops
  S = A.ops

  -- the value of a polynomial at (x, y)
  abbrev pub at : List (Term A.ops) → T.ops.K
  at q = value_at T x y (map (carried A.ops T.ops h) q)

  at_nil : at [] ≡ o
  unfolding value_at
  at_nil = refl

  at_cons : (m : Term S) (q : List (Term S)) → at (m ∷ q) ≡ φ m.0 ⊗ power T.ops x m.1 ⊗ power T.ops y m.2 ⊕ at q
  unfolding value_at
  at_cons m q = refl

  -- of a sum
  pub at_append : (q r : List (Term A.ops)) → at (q ++ r) ≡ T.ops.add (at q) (at r)
  at_append [] r = sym (ap (λ (z : K). z ⊕ at r) at_nil ∙ zero_plus T (at r))
  at_append (m ∷ q) r =
      let t = φ m.0 ⊗ power T.ops x m.1 ⊗ power T.ops y m.2 in
      at_cons m (q ++ r) ∙ ap (λ (z : K). t ⊕ z) (at_append q r) ∙ sym (plus_assoc T t (at q) (at r)) ∙ ap (λ (z : K). z ⊕ at r) (sym (at_cons m q))

  y_step : (c a b w : K) → c ⊗ a ⊗ (y ⊗ b) ⊕ y ⊗ w ≡ y ⊗ (c ⊗ a ⊗ b ⊕ w)
  y_step c a b w = simp ring

  -- of y times it
  at_y : (r : List (Term S)) → at (times_y S r) ≡ y ⊗ at r
  at_y [] = simp (at_nil, ring)
  at_y (m ∷ r) = simp (at_cons, power_suc, at_y r) (y_step (φ m.0) (power T.ops x m.1) (power T.ops y m.2) (at r))

  x_step : (c a b w : K) → c ⊗ (x ⊗ a) ⊗ b ⊕ x ⊗ w ≡ x ⊗ (c ⊗ a ⊗ b ⊕ w)
  x_step c a b w = simp ring

  at_x : (r : List (Term S)) → at (times_x S r) ≡ x ⊗ at r
  at_x [] = simp (at_nil, ring)
  at_x (m ∷ r) = simp (at_cons, power_suc, at_x r) (x_step (φ m.0) (power T.ops x m.1) (power T.ops y m.2) (at r))

  c_step : (c d a b w : K) → c ⊗ d ⊗ a ⊗ b ⊕ c ⊗ w ≡ c ⊗ (d ⊗ a ⊗ b ⊕ w)
  c_step c d a b w = simp ring

  at_constant : (c : S.K) (r : List (Term S)) → at (times_constant S c r) ≡ φ c ⊗ at r
  at_constant c [] = simp (at_nil, ring)
  at_constant c (m ∷ r) =
      at_cons (S.mul c m.0, m.1, m.2) (times_constant S c r)
      ∙ ap₂ (λ (d z : K). d ⊗ power T.ops x m.1 ⊗ power T.ops y m.2 ⊕ z) (φ_mul c m.0) (at_constant c r)
      ∙ c_step (φ c) (φ m.0) (power T.ops x m.1) (power T.ops y m.2) (at r) ∙ ap (λ (z : K). φ c ⊗ z) (sym (at_cons m r))

  times_none : (r : List (Term S)) → times_of S [] r ≡ []
  unfolding times_of
  times_none r = refl

  times_more : (c : S.K) (f : List S.K) (r : List (Term S)) → times_of S (c ∷ f) r ≡ times_constant S c r ++ times_of S f (times_x S r)
  unfolding times_of
  times_more c f r = refl

  f_step : (c v w : K) → c ⊗ w ⊕ v ⊗ (x ⊗ w) ≡ (c ⊕ x ⊗ v) ⊗ w
  f_step c v w = simp ring

  -- of f(x) times it
  at_of : (f : List S.K) (r : List (Term S)) → at (times_of S f r) ≡ evaluate A T h x f ⊗ at r
  at_of [] r = ap at (times_none r) ∙ at_nil ∙ simp (value_nil, ring)
  at_of (c ∷ f) r =
      ap at (times_more c f r) ∙ at_append (times_constant S c r) (times_of S f (times_x S r))
      ∙ ap₂ ◌⊕◌ (at_constant c r) (at_of f (times_x S r) ∙ ap (λ (z : K). evaluate A T h x f ⊗ z) (at_x r))
      ∙ f_step (φ c) (evaluate A T h x f) (at r) ∙ ap (λ (z : K). z ⊗ at r) (sym (value_cons T.ops x (φ c) (map φ f)))

  -- of y + f(x) times it
  pub at_factor : (f : List A.ops.K) (r : List (Term A.ops))
      → at (times_factor A.ops f r) ≡ T.ops.mul (T.ops.add y (evaluate A T h x f)) (at r)
  at_factor f r = at_append (times_y S r) (times_of S f r) ∙ ap₂ ◌⊕◌ (at_y r) (at_of f r) ∙ simp ring

  module _ (f : List S.K) where
    abbrev F : K
    F = evaluate A T h x f

    -- where f(x) is put for y
    abbrev put : List (Term S) → K
    put q = value_at T x F (map (carried A.ops T.ops h) q)

    first_step : (e : K) → (y ⊕ F) ⊗ o ≡ e ⊗ i ⊕ e ⊗ i
    first_step e = simp ring

    next_step : (e b d p : K) → (y ⊕ F) ⊗ d ≡ e ⊗ b ⊕ e ⊗ p → (y ⊕ F) ⊗ (e ⊗ b ⊕ F ⊗ d) ≡ e ⊗ (y ⊗ b) ⊕ e ⊗ (F ⊗ p)
    next_step e b d p is =
        let turn : (y ⊕ F) ⊗ (e ⊗ b ⊕ F ⊗ d) ≡ (y ⊕ F) ⊗ (e ⊗ b) ⊕ F ⊗ ((y ⊕ F) ⊗ d) = simp ring in
        turn ∙ ap (λ (z : K). (y ⊕ F) ⊗ (e ⊗ b) ⊕ F ⊗ z) is ∙ simp ring

    -- y + f(x) times the quotient of a term is the term, and the term with f(x) for y
    at_divided : (c : S.K) (a b : ℕ) → (y ⊕ F) ⊗ at (divided S f c a b)
        ≡ φ c ⊗ power T.ops x a ⊗ power T.ops y b ⊕ φ c ⊗ power T.ops x a ⊗ power T.ops F b
    unfolding divided
    at_divided c a zero =
        ap (λ (z : K). (y ⊕ F) ⊗ z) at_nil ∙ first_step (φ c ⊗ power T.ops x a)
        ∙ ap₂ (λ (p q : K). φ c ⊗ power T.ops x a ⊗ p ⊕ φ c ⊗ power T.ops x a ⊗ q) (sym (power_zero T.ops y)) (sym (power_zero T.ops F))
    at_divided c a (suc b) =
        let e = φ c ⊗ power T.ops x a in
        ap (λ (z : K). (y ⊕ F) ⊗ z)
        (at_cons (c, a, b) (times_of S f (divided S f c a b)) ∙ ap (λ (z : K). e ⊗ power T.ops y b ⊕ z) (at_of f (divided S f c a b)))
        ∙ next_step e (power T.ops y b) (at (divided S f c a b)) (power T.ops F b) (at_divided c a b)
        ∙ ap₂ (λ (p q : K). e ⊗ p ⊕ e ⊗ q) (sym (power_suc T.ops y b)) (sym (power_suc T.ops F b))

    all_step : (d s t u p q v : K) → d ⊗ s ≡ t ⊕ u → d ⊗ p ≡ q ⊕ v → d ⊗ (s ⊕ p) ≡ t ⊕ q ⊕ (u ⊕ v)
    all_step d s t u p q v e g = times_plus T d s p ∙ ap₂ ◌⊕◌ e g ∙ simp ring

    -- so Q is y + f(x) times its quotient, and Q(x, f(x))
    pub at_quotient : (q : List (Term S)) → (y ⊕ F) ⊗ at (quotient_by S f q) ≡ at q ⊕ put q
    unfolding quotient_by value_at
    at_quotient [] = simp ring
    at_quotient (m ∷ q) =
        let t = φ m.0 ⊗ power T.ops x m.1 ⊗ power T.ops y m.2 in
        let u = φ m.0 ⊗ power T.ops x m.1 ⊗ power T.ops F m.2 in
        let s = divided S f m.0 m.1 m.2 in
        ap (λ (z : K). (y ⊕ F) ⊗ z) (at_append s (quotient_by S f q))
        ∙ all_step (y ⊕ F) (at s) t u (at (quotient_by S f q)) (at q) (put q) (at_divided m.0 m.1 m.2) (at_quotient q)
