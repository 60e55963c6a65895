-- Numbers pass through the points of a code as often as their elements do.
-- Assumes nothing.
use mathlib.Core.List.{List, map}
use mathlib.Core.Path.{◌≡◌, sym, ◌∙◌, ap, ap₂, subst}
use Prim.Native.Nat.{ℕ, ◌+◌, ◌<◌}
use Rattle.definitions.specs.Code.{Symbols, point}
use Rattle.definitions.specs.Field.{Ops, Code, numbers}
use Rattle.definitions.specs.Polynomial.{terms, monomials, hasse, Through}
use Rattle.definitions.specs.Weights.{entry}
use Rattle.algebra.specs.FieldOf.{FieldOf}
use Rattle.algebra.proofs.Elements.{number_injective}
use Rattle.algebra.proofs.Numbers.{elements, numbers_elements, point_symbol, number_hasse}
use Rattle.algebra.proofs.Theorem.{PassesThrough}

module _ (C : Code) (F : FieldOf C) where
  -- the operations on elements
  abbrev G : Ops
  G = F.ring.ops

  -- the operations on numbers
  abbrev N : Ops
  N = numbers C

  -- the number of an element
  abbrev φ : G.K → ℕ
  φ = F.number.φ

  -- the point of a position, as an element
  abbrev pub point_element : ℕ → F.ring.ops.K
  point_element i = F.element (point C i)

  -- its number is the point
  pub number_point : (i : ℕ) → F.number.φ (point_element i) ≡ point C i
  number_point i = F.number_element (point C i) (point_symbol C F i)

  -- the multiplicity of an element at a position
  abbrev pub multiplicity_of : List ℕ → ℕ → F.ring.ops.K → ℕ
  multiplicity_of m i b = entry C m i (F.number.φ b)

  -- the elements pass where the numbers do
  pub elements_pass : (n v D : ℕ) (m q : List ℕ) → Symbols C q → Through C n v D m q
      → PassesThrough F.ring n point_element (multiplicity_of m) (terms F.ring.ops (elements C F q) (monomials v D))
  elements_pass n v D m q sq through i h b s t k =
      number_injective C F _ _
      (number_hasse C F (elements C F q) (monomials v D) s t (point_element i) b
      ∙ ap₂ (λ (p : List ℕ) (a : ℕ). hasse N (terms N p (monomials v D)) s t a (φ b)) (numbers_elements C F q sq) (number_point i)
      ∙ through i (φ b) h (F.number_symbol b) s t k ∙ sym F.number.φ_zero)

  -- and the numbers where the elements do
  pub numbers_pass : (n v D : ℕ) (m : List ℕ) (q : List F.ring.ops.K)
      → PassesThrough F.ring n point_element (multiplicity_of m) (terms F.ring.ops q (monomials v D))
      → Through C n v D m (map F.number.φ q)
  numbers_pass n v D m q passes i b h hb s t k =
      ap₂ (λ (a c : ℕ). hasse N (terms N (map φ q) (monomials v D)) s t a c) (sym (number_point i)) (sym (F.number_element b hb))
      ∙ sym (number_hasse C F q (monomials v D) s t (point_element i) (F.element b))
      ∙ ap φ (passes i h (F.element b) s t (subst (λ (c : ℕ). s + t < entry C m i c) (sym (F.number_element b hb)) k))
      ∙ F.number.φ_zero
