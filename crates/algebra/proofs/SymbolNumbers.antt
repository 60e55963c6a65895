-- The number of a sum and of a product of the elements of symbols.
-- Assumes nothing.
use mathlib.Core.Path.{◌≡◌, ◌∙◌, ap₂}
use Prim.Native.Nat.{ℕ, ◌<◌}
use Rattle.definitions.specs.Field.{Ops, Code}
use Rattle.algebra.specs.FieldOf.{FieldOf}

module _ (C : Code) (F : FieldOf C) where
  -- the operations on elements
  abbrev G : Ops
  G = F.ring.ops

  -- the number of an element
  abbrev φ : G.K → ℕ
  φ = F.number.φ

  module _ (a b : ℕ) (ha : a < C.symbols) (hb : b < C.symbols) where
    -- the number of a sum of elements
    pub number_plus : φ (G.add (F.element a) (F.element b)) ≡ C.plus a b
    number_plus = F.number.φ_add (F.element a) (F.element b) ∙ ap₂ C.plus (F.number_element a ha) (F.number_element b hb)

    -- the number of a product of elements
    pub number_times : φ (G.mul (F.element a) (F.element b)) ≡ C.times a b
    number_times = F.number.φ_mul (F.element a) (F.element b) ∙ ap₂ C.times (F.number_element a ha) (F.number_element b hb)
