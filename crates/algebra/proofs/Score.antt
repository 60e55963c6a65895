-- The theorem in the very terms of the page of definitions, over any code that carries a field.
-- Assumes nothing.
use mathlib.Core.Bool.{true}
use mathlib.Core.List.{List}
use mathlib.Core.Path.{◌≡◌, sym, ◌∙◌, ap, subst}
use Prim.Native.Nat.{ℕ, suc, ◌≤◌, ◌<◌}
use native.Mathlib.Omega.{arith}
use lib.ListN.{length, length-map, get_or}
use Rattle.definitions.proofs.Codeword.{codeword_at}
use Rattle.definitions.proofs.Tools.{sum_ext}
use Rattle.definitions.specs.Code.{Symbols, point, codeword}
use Rattle.definitions.specs.Field.{Ops, Code, value}
use Rattle.definitions.specs.Polynomial.{monomials, Through}
use Rattle.definitions.specs.Roots.{is_root}
use Rattle.definitions.specs.Tools.{sum}
use Rattle.definitions.specs.Weights.{entry, score}
use Rattle.algebra.specs.FieldOf.{FieldOf}
use Rattle.algebra.proofs.Numbers.{elements, point_symbol, number_value_at, compose_zero}
use Rattle.algebra.proofs.Passing.{point_element, multiplicity_of, number_point, elements_pass}
use Rattle.algebra.proofs.RootCounting.{Distinct}
use Rattle.algebra.proofs.TheoremOfLists.{score_above_degree_of_list}

module _ (C : Code) (F : FieldOf C) where
  -- the operations on elements
  abbrev G : Ops
  G = F.ring.ops

  -- the number of an element
  abbrev φ : G.K → ℕ
  φ = F.number.φ

  -- the points of a code are distinct
  pub points_distinct : (n : ℕ) → n ≤ C.positions → Distinct F.ring.ops n (point_element C F)
  points_distinct n h i j k l e = F.points_differ i j k (omega arith) (sym (number_point C F i) ∙ ap φ e ∙ number_point C F j)

  -- the symbol at position i of a codeword is the value at the point
  pub codeword_of_elements : (n : ℕ) (f : List ℕ) → Symbols C f → (i : ℕ) → i < n
      → get_or (codeword C n f) i 0 ≡ F.number.φ (value F.ring.ops (point_element C F i) (elements C F f))
  codeword_of_elements n f s i h = codeword_at C f n i h ∙ sym (number_value_at C F (point C i) f (point_symbol C F i) s)

  -- the score, by values of elements
  score_of_elements : (n : ℕ) (m f : List ℕ) → Symbols C f → score C n m f ≡ sum n (λ i. entry C m i (φ (value G (point_element C F i) (elements C F f))))
  score_of_elements n m f s =
      sum_ext n (λ i. entry C m i (get_or (codeword C n f) i 0)) (λ i. entry C m i (φ (value G (point_element C F i) (elements C F f))))
      (λ i h. ap (entry C m i) (codeword_of_elements n f s i h))

  -- every message of score above D is a y-root of every polynomial that passes, of weighted degree at most D
  pub score_above_degree_is_root : (n v D : ℕ) (m q f : List ℕ) → n ≤ C.positions → Symbols C q → Through C n v D m q
      → Symbols C f → length f ≤ suc v → D < score C n m f → is_root C v D q f ≡ true
  score_above_degree_is_root n v D m q f hn sq through sf short above =
      compose_zero C F f q (monomials v D) sf sq
      (score_above_degree_of_list F.ring F.field n (point_element C F) (multiplicity_of C F m) v D (elements C F q) (elements C F f)
      (points_distinct n hn) (elements_pass C F n v D m q sq through) (omega (arith, length-map f F.element))
      (subst (λ (k : ℕ). D < k) (score_of_elements n m f sf) above))
