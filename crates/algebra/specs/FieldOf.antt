-- A code whose symbols are the elements of a field: all that the laws ask of a code.
-- Assumes nothing.
use Rattle.std.specs.Prelude.{◌≢◌, ◌≡◌, ℕ, ◌<◌}
use Rattle.definitions.specs.Code.{point}
use Rattle.definitions.specs.Field.{Code, numbers}
use Rattle.algebra.specs.Ring.{Ring, IsField, Hom}

-- a field whose elements and the code's symbols stand for each other, sums for sums and products for products, and points that differ
pub record FieldOf (C : Code) : Type 1 where
  pub ring : Ring
  pub field : IsField ring
  pub number : Hom ring.ops (numbers C)
  pub element : ℕ → ring.ops.K
  pub number_element : (a : ℕ) → a < C.symbols → number.φ (element a) ≡ a
  pub element_number : (x : ring.ops.K) → element (number.φ x) ≡ x
  pub number_symbol : (x : ring.ops.K) → number.φ x < C.symbols
  pub α_symbol : C.α < C.symbols
  pub points_differ : (i j : ℕ) → i < j → j < C.positions → point C i ≢ point C j
