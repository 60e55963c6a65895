-- A Hasse derivative, collected by powers of y: the derivatives by x of what stands at each power, times the derivatives of that power.
-- Assumes nothing.
use mathlib.Core.Bool.{Bool, true, false, cond}
use mathlib.Core.List.{List}
use mathlib.Core.Path.{◌≡◌, refl, sym, ◌∙◌, ap, ap₂, subst}
use Prim.Native.Nat.{ℕ, zero, suc, ◌+◌, ◌/◌, ◌≤◌, ◌<◌}
use native.Mathlib.Decide.{ℕ_discrete}
use native.Mathlib.Omega.{arith}
use borrow.Author.Tests.{eq-eqb, ne_eqb}
use lib.Dec.{eqb}
use lib.ListN.{get_or}
use Rattle.algebra.proofs.Carry.{carry_derivative}
use Rattle.algebra.proofs.Linear.{row, dot_none, dot_suc, dot_equal, carry_dot, hasse_is_dot}
use Rattle.algebra.proofs.Numbers.{elements}
use Rattle.algebra.proofs.RingLaws.{plus_zero, zero_plus, times_comm, zero_times}
use Rattle.algebra.proofs.Solutions.{number_entry, number_hasse_at}
use Rattle.algebra.specs.Dot.{dot}
use Rattle.algebra.specs.FieldOf.{FieldOf}
use Rattle.algebra.specs.Ring.{Ring}
use Rattle.definitions.proofs.Monomials.{monomials_in_order}
use Rattle.definitions.specs.Bound.{count}
use Rattle.definitions.specs.Code.{Symbols}
use Rattle.definitions.specs.Field.{Ops, Code, numbers}
use Rattle.definitions.specs.Limits.{greatest_level, greatest_count}
use Rattle.definitions.specs.Polynomial.{monomials, terms, derivative, hasse}
use Rattle.linear.proofs.Combinations.{dot_rows, dot_added, dot_zeros}
use Rattle.monomials.proofs.Walk.{x_within, y_within, walked_monomial}
use Rattle.monomials.specs.Walk.{walked}
use Rattle.passing.specs.Derivatives.{Powers, Parts, derivative_at}

module _ (A : Ring) where
  open A.ops use {K, o, add as ◌⊕◌, mul as ◌⊗◌}

  infixl 60 ◌⊕◌
  infixl 70 ◌⊗◌
  -- one entry that is not zero
  dot_only : (h j : ℕ) (z : K) (q : ℕ → K) → j < h → dot A.ops h (λ b. cond (eqb j b) z o) q ≡ z ⊗ q j
  dot_only zero j z q l = let e : ⊥ = omega arith in absurd e
  dot_only (suc h) j z q l =
      elim (ℕ_discrete j h) [
        | yes e ↦
            dot_suc A.ops h (λ b. cond (eqb j b) z o) q
            ∙ ap₂ (λ (x : K) (c : Bool). x ⊕ cond c z o ⊗ q h) (dot_zeros A h _ q (λ k f. ap (λ (c : Bool). cond c z o) (ne_eqb j k (λ d. omega arith)))) (eq-eqb j h e)
            ∙ zero_plus A (z ⊗ q h) ∙ ap (λ (k : ℕ). z ⊗ q k) (sym e)
        | no e ↦
            dot_suc A.ops h (λ b. cond (eqb j b) z o) q
            ∙ ap₂ (λ (x : K) (c : Bool). x ⊕ cond c z o ⊗ q h) (dot_only h j z q (omega arith)) (ne_eqb j h e)
            ∙ ap (λ (x : K). z ⊗ q j ⊕ x) (zero_times A (q h)) ∙ plus_zero A (z ⊗ q j)
      ]

  -- terms z k q k, collected by w k
  abbrev by_place : (ℕ → ℕ) → (ℕ → K) → (ℕ → K) → ℕ → ℕ → K
  by_place w z q n b = dot A.ops n (λ k. cond (eqb (w k) b) (z k) o) q

  -- times a number for each place, they sum to what they do one by one
  collected : (h : ℕ) (w : ℕ → ℕ) (z q y : ℕ → K) (n : ℕ) → ((k : ℕ) → k < n → w k < h)
      → dot A.ops h (by_place w z q n) y ≡ dot A.ops n (λ k. z k ⊗ y (w k)) q
  collected h w z q y zero l =
      dot_zeros A h _ y (λ b _. dot_none A.ops _ q) ∙ sym (dot_none A.ops _ q)
  collected h w z q y (suc n) l =
      dot_rows A h _ (λ b. by_place w z q n b ⊕ q n ⊗ cond (eqb (w n) b) (z n) o) y
      (λ b _. dot_suc A.ops n _ q ∙ ap (λ (x : K). by_place w z q n b ⊕ x) (times_comm A (cond (eqb (w n) b) (z n) o) (q n)))
      ∙ dot_added A h (by_place w z q n) (λ b. cond (eqb (w n) b) (z n) o) y (q n)
      ∙ ap₂ (λ (a b : K). a ⊕ q n ⊗ b) (collected h w z q y n (λ k f. l k (omega arith))) (dot_only h (w n) (z n) y (l n (omega arith)))
      ∙ ap (λ (x : K). dot A.ops n (λ k. z k ⊗ y (w k)) q ⊕ x) (times_comm A (q n) (z n ⊗ y (w n)))
      ∙ sym (dot_suc A.ops n (λ k. z k ⊗ y (w k)) q)

module _ (C : Code) (F : FieldOf C) where
  abbrev G : Ops
  G = F.ring.ops

  abbrev N : Ops
  N = numbers C

  abbrev φ : G.K → ℕ
  φ = F.number.φ

  -- the derivative of a power at a symbol, for that at its element
  pub number_derivative : (e s x : ℕ) → x < C.symbols → F.number.φ (derivative F.ring.ops e s (F.element x)) ≡ derivative (numbers C) e s x
  number_derivative e s x h = carry_derivative G N F.number e s (F.element x) ∙ ap (derivative N e s) (F.number_element x h)

  -- so it is a symbol
  pub derivative_symbol : (e s x : ℕ) → x < C.symbols → derivative (numbers C) e s x < C.symbols
  derivative_symbol e s x h = subst (λ (a : ℕ). a < C.symbols) (number_derivative e s x h) (F.number_symbol (derivative G e s (F.element x)))

  -- one of two
  number_cond : (c : Bool) (z : G.K) → φ (cond c z G.o) ≡ cond c (φ z) 0
  number_cond true z = refl
  number_cond false z = F.number.φ_zero

  module _ (v D : ℕ) (pos : 0 < v) (q : List ℕ) (sq : Symbols C q) (x y : ℕ) (hx : x < C.symbols) (hy : y < C.symbols) (s t : ℕ) where
    -- the coefficients, the derivatives of the powers of x, and those of y, as elements
    abbrev coefficient : ℕ → G.K
    coefficient k = get_or (elements C F q) k G.o

    abbrev by_x : ℕ → G.K
    by_x k = derivative G (walked v k).0 s (F.element x)

    abbrev by_y : ℕ → G.K
    by_y b = derivative G b t (F.element y)

    -- what stands at a power of y, as a number
    number_part : (n b : ℕ) → φ (by_place F.ring (λ k. (walked v k).1) by_x coefficient n b)
        ≡ dot N n (λ k. cond (eqb (walked v k).1 b) (derivative N (walked v k).0 s x) 0) (λ k. get_or q k 0)
    number_part n b =
        carry_dot G N F.number n (λ k. cond (eqb (walked v k).1 b) (by_x k) G.o) coefficient
        ∙ dot_equal N n _ _ _ _
        (λ k _. number_cond (eqb (walked v k).1 b) (by_x k) ∙ ap (λ (z : ℕ). cond (eqb (walked v k).1 b) z 0) (number_derivative (walked v k).0 s x hx))
        (λ k _. number_entry C F q sq k)

    -- the derivative of the elements, collected
    hasse_collected : dot G (D / v + 1) (by_place F.ring (λ k. (walked v k).1) by_x coefficient (count v D)) by_y
        ≡ hasse G (terms G (elements C F q) (monomials v D)) s t (F.element x) (F.element y)
    hasse_collected =
        collected F.ring (D / v + 1) (λ k. (walked v k).1) by_x coefficient by_y (count v D) (λ k h. y_within v pos D k h)
        ∙ dot_rows F.ring (count v D) _ (row G (monomials v D) s t (F.element x) (F.element y)) coefficient
        (λ k h. ap (λ (m : ℕ × ℕ). G.mul (derivative G m.0 s (F.element x)) (derivative G m.1 t (F.element y))) (sym (walked_monomial v pos D k h)))
        ∙ ap (λ (n : ℕ). dot G n (row G (monomials v D) s t (F.element x) (F.element y)) coefficient) (sym (monomials_in_order v pos D).size)
        ∙ sym (hasse_is_dot F.ring (monomials v D) (elements C F q) s t (F.element x) (F.element y))

    -- the rows give the derivative of the polynomial
    pub parts_hasse : (px rows : List (List ℕ)) → Powers C x (D + 1) px → Parts C v (count v D) px q rows → D / v + 1 ≤ greatest_count → s < greatest_level
        → derivative_at C rows (D / v + 1) y s t ≡ hasse (numbers C) (terms (numbers C) q (monomials v D)) s t x y
    parts_hasse px rows powers parts wide low =
        dot_equal N (D / v + 1) _ (λ b. φ (by_place F.ring (λ k. (walked v k).1) by_x coefficient (count v D) b)) _ (λ b. φ (by_y b))
        (λ b h.
        parts.each b s (omega arith) low
        ∙ dot_equal N (count v D) _ _ _ _
        (λ k l. ap (λ (z : ℕ). cond (eqb (walked v k).1 b) z 0) (powers.each (walked v k).0 s (x_within v pos D k l) low)) (λ k _. refl)
        ∙ sym (number_part (count v D) b))
        (λ b h. sym (number_derivative b t y hy))
        ∙ sym (carry_dot G N F.number (D / v + 1) (by_place F.ring (λ k. (walked v k).1) by_x coefficient (count v D)) by_y) ∙ ap φ hasse_collected
        ∙ number_hasse_at C F (monomials v D) q s t x y sq hx hy
