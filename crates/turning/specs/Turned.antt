-- A matrix that is lent as bytes, once it is turned into a record.
-- Assumes nothing.
use Rattle.std.specs.Prelude.{List, ◌≡◌, ℕ, length, take}
use Rattle.definitions.specs.Weights.{cost}

-- the bytes stand in front of these entries, and the price is their cost
pub record Turned (bytes : List ℕ) (price : ℕ) (e : List ℕ) : Type 0 where
  pub paid : price ≡ cost bytes
  pub front : take (length bytes) e ≡ bytes
