-- The lists of symbols that pass through a matrix of multiplicities are closed under sums, and each Hasse condition on them is a row times the
-- coefficients.
-- Assumes nothing.
use mathlib.Core.List.{List, map}
use mathlib.Core.Path.{◌≡◌, sym, ◌∙◌, ap, ap₂, subst}
use Prim.Native.Nat.{ℕ, ◌≤◌, ◌<◌}
use lib.ListN.{get_or}
use Rattle.definitions.specs.Code.{Symbols}
use Rattle.definitions.specs.Field.{Ops, Code, numbers}
use Rattle.definitions.specs.Polynomial.{terms, monomials, hasse, Through}
use Rattle.definitions.specs.Roots.{plus}
use Rattle.algebra.specs.Dot.{dot}
use Rattle.algebra.specs.FieldOf.{FieldOf}
use Rattle.algebra.proofs.Carry.{carry_plus}
use Rattle.algebra.proofs.Elements.{element_zero}
use Rattle.algebra.proofs.Linear.{dot_equal, dot_ended, carry_dot, passes_plus}
use Rattle.algebra.proofs.Numbers.{elements, numbers_elements, number_at, numbers_symbols, number_hasse}
use Rattle.algebra.proofs.Passing.{point_element, multiplicity_of, elements_pass, numbers_pass}
use Rattle.algebra.proofs.RingLaws.{plus_zero, times_zero}

module _ (C : Code) (F : FieldOf C) where
  -- the operations on elements
  abbrev G : Ops
  G = F.ring.ops

  -- the operations on numbers
  abbrev N : Ops
  N = numbers C

  -- the number of an element
  abbrev φ : G.K → ℕ
  φ = F.number.φ

  -- a sum of symbols stands for the sum of their elements
  pub numbers_plus : (p q : List ℕ) → Symbols C p → Symbols C q
      → map F.number.φ (plus F.ring.ops (elements C F p) (elements C F q)) ≡ plus (numbers C) p q
  numbers_plus p q sp sq =
      carry_plus G N F.number (elements C F p) (elements C F q) ∙ ap₂ (plus N) (numbers_elements C F p sp) (numbers_elements C F q sq)

  -- a sum of lists of symbols is one
  pub symbols_plus : (p q : List ℕ) → Symbols C p → Symbols C q → Symbols C (plus (numbers C) p q)
  symbols_plus p q sp sq = subst (Symbols C) (numbers_plus p q sp sq) (numbers_symbols C F (plus G (elements C F p) (elements C F q)))

  -- the sum of two lists that pass, passes
  pub through_plus : (n v D : ℕ) (m p q : List ℕ) → Symbols C p → Symbols C q → Through C n v D m p → Through C n v D m q
      → Through C n v D m (plus (numbers C) p q)
  through_plus n v D m p q sp sq hp hq =
      subst (Through C n v D m) (numbers_plus p q sp sq)
      (numbers_pass C F n v D m (plus G (elements C F p) (elements C F q)) (λ i h b.
      passes_plus F.ring (monomials v D) (elements C F p) (elements C F q) (point_element C F i) b (multiplicity_of C F m i b)
      (elements_pass C F n v D m p sp hp i h b) (elements_pass C F n v D m q sq hq i h b)))

  -- a coefficient for the element's
  pub number_entry : (q : List ℕ) → Symbols C q → (k : ℕ) → φ (get_or (elements C F q) k G.o) ≡ get_or q k 0
  number_entry q sq k =
      sym (number_at C F (elements C F q) k) ∙ ap (λ (l : List ℕ). get_or l k 0) (numbers_elements C F q sq)

  -- a Hasse derivative for that of the elements
  pub number_hasse_at : (l : List (ℕ × ℕ)) (q : List ℕ) (s t a b : ℕ) → Symbols C q → a < C.symbols → b < C.symbols
      → F.number.φ (hasse F.ring.ops (terms F.ring.ops (elements C F q) l) s t (F.element a) (F.element b))
      ≡ hasse (numbers C) (terms (numbers C) q l) s t a b
  number_hasse_at l q s t a b sq ha hb =
      number_hasse C F (elements C F q) l s t (F.element a) (F.element b)
      ∙ ap (λ (p : List ℕ). hasse N (terms N p l) s t (φ (F.element a)) (φ (F.element b))) (numbers_elements C F q sq)
      ∙ ap₂ (λ (x y : ℕ). hasse N (terms N q l) s t x y) (F.number_element a ha) (F.number_element b hb)

  module _ (r q : ℕ → ℕ) (sr : (k : ℕ) → r k < C.symbols) (sq : (k : ℕ) → q k < C.symbols) where
    -- a row of symbols times symbols, for that of the elements
    pub number_dot : (n : ℕ) → F.number.φ (dot F.ring.ops n (λ k. F.element (r k)) (λ k. F.element (q k))) ≡ dot (numbers C) n r q
    number_dot n =
        carry_dot G N F.number n (λ k. F.element (r k)) (λ k. F.element (q k))
        ∙ dot_equal N n _ r _ q (λ k h. F.number_element (r k) (sr k)) (λ k h. F.number_element (q k) (sq k))

    -- where the symbols are 0 from j on, the row adds nothing from there on
    pub symbols_ended : (n j : ℕ) → j ≤ n → ((k : ℕ) → j ≤ k → k < n → q k ≡ 0) → dot (numbers C) n r q ≡ dot (numbers C) j r q
    symbols_ended n j h ends =
        sym (number_dot n)
        ∙ ap φ
        (dot_ended G (plus_zero F.ring) n j (λ k. F.element (r k)) (λ k. F.element (q k)) h (λ k l f.
        ap (G.mul (F.element (r k))) (ap F.element (ends k l f) ∙ element_zero C F) ∙ times_zero F.ring (F.element (r k))))
        ∙ number_dot j
