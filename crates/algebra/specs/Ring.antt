-- Rings and fields that the laws are stated over, and maps between bare operations.
-- Assumes nothing.
use Rattle.std.specs.Prelude.{◌≢◌, ◌≡◌}
use Rattle.definitions.specs.Field.{Ops}

-- a commutative ring of characteristic 2
pub record Ring : Type 1 where
  pub ops : Ops
  pub add_assoc : (a b c : ops.K) → ops.add (ops.add a b) c ≡ ops.add a (ops.add b c)
  pub add_comm : (a b : ops.K) → ops.add a b ≡ ops.add b a
  pub add_zero : (a : ops.K) → ops.add a ops.o ≡ a
  pub add_self : (a : ops.K) → ops.add a a ≡ ops.o
  pub mul_assoc : (a b c : ops.K) → ops.mul (ops.mul a b) c ≡ ops.mul a (ops.mul b c)
  pub mul_comm : (a b : ops.K) → ops.mul a b ≡ ops.mul b a
  pub mul_one : (a : ops.K) → ops.mul a ops.i ≡ a
  pub mul_add : (a b c : ops.K) → ops.mul a (ops.add b c) ≡ ops.add (ops.mul a b) (ops.mul a c)

-- a field: what is not zero has an inverse
pub record IsField (R : Ring) : Type 0 where
  pub inverse : R.ops.K → R.ops.K
  pub mul_inverse : (a : R.ops.K) → a ≢ R.ops.o → R.ops.mul a (inverse a) ≡ R.ops.i

-- a map that keeps the operations
pub record Hom (A R : Ops) : Type 0 where
  pub φ : A.K → R.K
  pub φ_zero : φ A.o ≡ R.o
  pub φ_one : φ A.i ≡ R.i
  pub φ_add : (a b : A.K) → φ (A.add a b) ≡ R.add (φ a) (φ b)
  pub φ_mul : (a b : A.K) → φ (A.mul a b) ≡ R.mul (φ a) (φ b)
