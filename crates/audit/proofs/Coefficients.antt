-- A polynomial in x and y is told by its coefficients: they are its value in power series of power series, and its Hasse derivatives at (0, 0). So
-- Q(x, f(x)) is zero if and only if y + f(x) times some polynomial has the coefficients of Q.
-- Assumes nothing.
use mathlib.Core.Bool.{cond, ◌&&◌}
use mathlib.Core.List.{List, [], ◌∷◌}
use mathlib.Core.Logic.{◌≢◌}
use mathlib.Core.Path.{◌≡◌, refl, sym, ◌∙◌, ap, ap₂, fun_ext}
use Prim.Native.Nat.{ℕ, zero, suc}
use native.Mathlib.Decide.{ℕ_discrete}
use borrow.Author.Tests.{eq-eqb, ne_eqb}
use lib.Dec.{eqb}
use lib.ListN.{get_or}
use Rattle.algebra.proofs.Derivatives.{derivative_in_series}
use Rattle.algebra.proofs.Carry.{carry_power}
use Rattle.algebra.proofs.Composition.{value_at, evaluate_compose}
use Rattle.algebra.proofs.Evaluation.{evaluate}
use Rattle.algebra.proofs.Hasse.{around, value_around, in_series, hasse_is_coefficient}
use Rattle.algebra.proofs.RingLaws.{ring, plus_zero, zero_plus, plus_self, times_one, times_zero, zero_times}
use Rattle.algebra.proofs.RootCounting.{Zero}
use Rattle.algebra.proofs.Series.{Series, mul_s, constant, constants, linear, add_s_at, zero_s_at, constant_o, constant_add, constant_times}
use Rattle.algebra.proofs.Series.{constant_zero, constant_suc, constant_mul, linear_mul_zero, linear_mul_suc}
use Rattle.algebra.proofs.Taylor.{taylor}
use Rattle.algebra.specs.Ring.{Ring, Hom}
use Rattle.audit.proofs.Quotient.{at, at_factor, quotient_by, at_quotient}
use Rattle.audit.specs.Factors.{coefficient, times_factor}
use Rattle.definitions.proofs.Codeword.{power_zero, power_suc}
use Rattle.definitions.specs.Field.{power, value}
use Rattle.definitions.specs.Polynomial.{Term, derivative, hasse}
use Rattle.definitions.specs.Roots.{compose}
use Rattle.root_tree.proofs.Values.{value_zeros, series_coefficient, value_same}

module _ (R : Ring) where
  open R.ops use {K, o, i, add as ◌⊕◌, mul as ◌⊗◌}

  infixl 60 ◌⊕◌
  infixl 70 ◌⊗◌
  -- ---- the power series X^a

  x_same : (a : ℕ) → power (Series R).ops (linear R o) a a ≡ i
  x_same zero = ap (λ (s : ℕ → K). s zero) (power_zero (Series R).ops (linear R o)) ∙ constant_zero R i
  x_same (suc a) =
      ap (λ (s : ℕ → K). s (suc a)) (power_suc (Series R).ops (linear R o) a) ∙ linear_mul_suc R o (power (Series R).ops (linear R o) a) a
      ∙ ap₂ ◌⊕◌ (zero_times R (power (Series R).ops (linear R o) a (suc a))) (x_same a) ∙ zero_plus R i

  x_other : (a s : ℕ) → a ≢ s → power (Series R).ops (linear R o) a s ≡ o
  x_other zero zero n = absurd (n refl)
  x_other zero (suc s) n = ap (λ (u : ℕ → K). u (suc s)) (power_zero (Series R).ops (linear R o)) ∙ constant_suc R i s
  x_other (suc a) zero n =
      ap (λ (u : ℕ → K). u zero) (power_suc (Series R).ops (linear R o) a) ∙ linear_mul_zero R o (power (Series R).ops (linear R o) a)
      ∙ zero_times R (power (Series R).ops (linear R o) a zero)
  x_other (suc a) (suc s) n =
      ap (λ (u : ℕ → K). u (suc s)) (power_suc (Series R).ops (linear R o) a) ∙ linear_mul_suc R o (power (Series R).ops (linear R o) a) s
      ∙ ap₂ ◌⊕◌ (zero_times R (power (Series R).ops (linear R o) a (suc s))) (x_other a s (λ e. n (ap suc e))) ∙ zero_plus R o

  -- one term's part of a coefficient
  term_at : (c u w : K) (a s b t : ℕ) → (a ≡ s → u ≡ i) → (a ≢ s → u ≡ o) → (b ≡ t → w ≡ i) → (b ≢ t → w ≡ o) → c ⊗ u ⊗ w ≡ cond (eqb a s && eqb b t) c o
  term_at c u w a s b t ui uo wi wo =
      elim (ℕ_discrete a s) [
        | yes e ↦
            elim (ℕ_discrete b t) [
              | yes g ↦ rw (eq-eqb a s e, eq-eqb b t g, ui e, wi g) (simp ring)
              | no g ↦ rw (eq-eqb a s e, ne_eqb b t g, wo g) (times_zero R (c ⊗ u))
            ]
        | no e ↦ rw (ne_eqb a s e, uo e) (simp ring)
      ]

  -- ---- coefficients are Hasse derivatives at (0, 0)

  coefficient_nil : (s t : ℕ) → coefficient R.ops [] s t ≡ o
  unfolding coefficient
  coefficient_nil s t = refl

  coefficient_cons : (m : Term R.ops) (q : List (Term R.ops)) (s t : ℕ)
      → coefficient R.ops (m ∷ q) s t ≡ cond (eqb m.1 s && eqb m.2 t) m.0 o ⊕ coefficient R.ops q s t
  unfolding coefficient
  coefficient_cons m q s t = refl

  derivative_same : (a s : ℕ) → a ≡ s → derivative R.ops a s o ≡ i
  derivative_same a s e = sym (derivative_in_series R a s o) ∙ ap (power (Series R).ops (linear R o) a) (sym e) ∙ x_same a

  derivative_other : (a s : ℕ) → a ≢ s → derivative R.ops a s o ≡ o
  derivative_other a s n = sym (derivative_in_series R a s o) ∙ x_other a s n

  coefficient_is_hasse : (q : List (Term R.ops)) (s t : ℕ) → hasse R.ops q s t o o ≡ coefficient R.ops q s t
  unfolding hasse
  coefficient_is_hasse [] s t = sym (coefficient_nil s t)
  coefficient_is_hasse (m ∷ q) s t =
      ap₂ ◌⊕◌
      (term_at m.0 (derivative R.ops m.1 s o) (derivative R.ops m.2 t o) m.1 s m.2 t (derivative_same m.1 s) (derivative_other m.1 s)
      (derivative_same m.2 t) (derivative_other m.2 t))
      (coefficient_is_hasse q s t)
      ∙ sym (coefficient_cons m q s t)

module _ (A : Ring) where
  open A.ops use {K, o, i, add as ◌⊕◌, mul as ◌⊗◌}

  infixl 60 ◌⊕◌
  infixl 70 ◌⊗◌
  -- ---- coefficients are those of a power series in y over power series in x

  abbrev T : Ring
  T = Series (Series A)

  abbrev twofold : Hom A.ops T.ops
  twofold =
      record {
        φ = λ c. constant (Series A) (constant A c);
        φ_zero = ap (constant (Series A)) (constant_o A) ∙ constant_o (Series A);
        φ_one = refl;
        φ_add = λ a b. ap (constant (Series A)) (constant_add A a b) ∙ constant_add (Series A) (constant A a) (constant A b);
        φ_mul = λ a b. ap (constant (Series A)) (constant_times A a b) ∙ constant_times (Series A) (constant A a) (constant A b);
      }

  abbrev X : ℕ → ℕ → K
  X = constant (Series A) (linear A o)

  abbrev Y : ℕ → ℕ → K
  Y = linear (Series A) (Series A).ops.o

  -- c x^a, as a power series in x
  abbrev in_x : K → ℕ → ℕ → K
  in_x c a = mul_s A (constant A c) (power (Series A).ops (linear A o) a)

  -- c X^a Y^b
  term_in_series : (c : K) (a b : ℕ) → T.ops.mul (T.ops.mul (twofold.φ c) (power T.ops X a)) (power T.ops Y b) ≡ T.ops.mul (constant (Series A) (in_x c a)) (power T.ops Y b)
  term_in_series c a b =
      ap (λ (u : ℕ → ℕ → K). T.ops.mul u (power T.ops Y b))
      (ap (T.ops.mul (twofold.φ c)) (sym (carry_power (Series A).ops T.ops (constants (Series A)) (linear A o) a))
      ∙ sym (constant_times (Series A) (constant A c) (power (Series A).ops (linear A o) a)))

  term_coefficient : (c : K) (a b s t : ℕ) → T.ops.mul (T.ops.mul (twofold.φ c) (power T.ops X a)) (power T.ops Y b) t s ≡ cond (eqb a s && eqb b t) c o
  term_coefficient c a b s t =
      ap (λ (u : ℕ → ℕ → K). u t s) (term_in_series c a b)
      ∙ ap (λ (u : ℕ → K). u s) (constant_mul (Series A) (in_x c a) (power T.ops Y b) t)
      ∙ elim (ℕ_discrete b t) [
        | yes e ↦
            let one : power T.ops Y b t ≡ constant A i = ap (power T.ops Y b) (sym e) ∙ x_same (Series A) b in
            ap (λ (u : ℕ → K). mul_s A (in_x c a) u s) one ∙ ap (λ (u : ℕ → K). u s) ((Series A).mul_one (in_x c a))
            ∙ constant_mul A c (power (Series A).ops (linear A o) a) s ∙ sym (times_one A (c ⊗ power (Series A).ops (linear A o) a s))
            ∙ term_at A c (power (Series A).ops (linear A o) a s) i a s b t (λ g. ap (power (Series A).ops (linear A o) a) (sym g) ∙ x_same A a) (x_other A a s)
            (λ _. refl) (λ n. absurd (n e))
        | no n ↦
            ap (λ (u : ℕ → K). mul_s A (in_x c a) u s) (x_other (Series A) b t n) ∙ ap (λ (u : ℕ → K). u s) (times_zero (Series A) (in_x c a)) ∙ zero_s_at A s
            ∙ sym (times_zero A (c ⊗ power (Series A).ops (linear A o) a s))
            ∙ term_at A c (power (Series A).ops (linear A o) a s) o a s b t (λ g. ap (power (Series A).ops (linear A o) a) (sym g) ∙ x_same A a) (x_other A a s)
            (λ e. absurd (n e)) (λ _. refl)
      ]

  at_is_coefficient : (q : List (Term A.ops)) (s t : ℕ) → at A T twofold X Y q t s ≡ coefficient A.ops q s t
  unfolding value_at
  at_is_coefficient [] s t = ap (λ (u : ℕ → K). u s) (zero_s_at (Series A) t) ∙ zero_s_at A s ∙ sym (coefficient_nil A s t)
  at_is_coefficient (m ∷ q) s t =
      let u = T.ops.mul (T.ops.mul (twofold.φ m.0) (power T.ops X m.1)) (power T.ops Y m.2) in
      ap (λ (w : ℕ → K). w s) (add_s_at (Series A) u (at A T twofold X Y q) t) ∙ add_s_at A (u t) (at A T twofold X Y q t) s
      ∙ ap₂ ◌⊕◌ (term_coefficient m.0 m.1 m.2 s t) (at_is_coefficient q s t) ∙ sym (coefficient_cons A m q s t)

  module _ (f : List K) (q : List (Term A.ops)) where
    -- where Q(x, f(x)) is zero, y + f(x) times the quotient is Q
    pub root_divides : Zero A.ops (compose A.ops f q)
        → (a b : ℕ) → coefficient A.ops q a b ≡ coefficient A.ops (times_factor A.ops f (quotient_by A.ops f q)) a b
    root_divides z a b =
        let whole : at A T twofold X Y (times_factor A.ops f (quotient_by A.ops f q)) ≡ at A T twofold X Y q =
        at_factor A T twofold X Y f (quotient_by A.ops f q) ∙ at_quotient A T twofold X Y f q
        ∙ ap (T.ops.add (at A T twofold X Y q))
        (sym (evaluate_compose A T twofold X f q) ∙ value_zeros A T twofold X (compose A.ops f q) z)
        ∙ plus_zero T (at A T twofold X Y q) in
        sym (at_is_coefficient q a b) ∙ ap (λ (u : ℕ → ℕ → K). u b a) (sym whole) ∙ at_is_coefficient (times_factor A.ops f (quotient_by A.ops f q)) a b

    -- Q(X, f(X)) in power series, by the coefficients of Q
    abbrev F : ℕ → K
    F = evaluate A (Series A) (constants A) (linear A o) f

    put : List (Term A.ops) → ℕ → K
    put p = value_at (Series A) (linear A o) F (in_series A p)

    put_equal : (p r : List (Term A.ops)) → ((a b : ℕ) → coefficient A.ops p a b ≡ coefficient A.ops r a b) → put p ≡ put r
    unfolding put
    put_equal p r same =
        let zeroth : (w : List (Term A.ops)) → value (Series A).ops F (around (Series A) (linear A o) (constant A o) (in_series A w)) ≡ value_at (Series A) (linear A o) F (in_series A w) =
        λ w. value_around (Series A) (linear A o) (constant A o) F (in_series A w)
        ∙ ap (λ (y : ℕ → K). value_at (Series A) (linear A o) y (in_series A w)) (ap (λ (z : ℕ → K). (Series A).ops.add z F) (constant_o A) ∙ zero_plus (Series A) F) in
        let at_place : (w : List (Term A.ops)) (t s : ℕ) → get_or (around (Series A) (linear A o) (constant A o) (in_series A w)) t (Series A).ops.o s ≡ coefficient A.ops w s t =
        λ w t s. hasse_is_coefficient A o o w s t ∙ coefficient_is_hasse A w s t in
        sym (zeroth p)
        ∙ value_same (Series A) F (around (Series A) (linear A o) (constant A o) (in_series A p)) (around (Series A) (linear A o) (constant A o) (in_series A r))
        (λ t. fun_ext (λ s. at_place p t s ∙ same s t ∙ sym (at_place r t s)))
        ∙ zeroth r

    -- and where y + f(x) times some polynomial has the coefficients of Q, Q(x, f(x)) is zero
    pub divides_root : (r : List (Term A.ops)) → ((a b : ℕ) → coefficient A.ops q a b ≡ coefficient A.ops (times_factor A.ops f r) a b)
        → Zero A.ops (compose A.ops f q)
    unfolding put taylor
    divides_root r same t =
        let none : put (times_factor A.ops f r) ≡ (Series A).ops.o =
        at_factor A (Series A) (constants A) (linear A o) F f r
        ∙ ap (λ (z : ℕ → K). (Series A).ops.mul z (at A (Series A) (constants A) (linear A o) F r)) (plus_self (Series A) F)
        ∙ zero_times (Series A) (at A (Series A) (constants A) (linear A o) F r) in
        sym (series_coefficient A (compose A.ops f q) t)
        ∙ ap (λ (u : ℕ → K). u t) (evaluate_compose A (Series A) (constants A) (linear A o) f q ∙ put_equal q (times_factor A.ops f r) same ∙ none) ∙ zero_s_at A t
