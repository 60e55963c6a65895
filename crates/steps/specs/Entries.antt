-- Reliabilities, multiplicities beside them, and entries of at most 5.
-- Assumes nothing.
use Rattle.std.specs.Prelude.{List, ◌≡◌, ℕ, ◌*◌, ◌≤◌, length, get_or}
use Rattle.definitions.specs.Field.{Code}
use Rattle.definitions.specs.Limits.{greatest_level}

-- the reliabilities of n positions
pub record Weights (C : Code) (n : ℕ) (r : List ℕ) : Type 0 where
  pub some : 1 ≤ n
  pub small : n ≤ C.positions
  pub full : length r ≡ C.symbols * n

-- and as many multiplicities
pub record Columns (C : Code) (n : ℕ) (r m : List ℕ) : Type 0 where
  pub weights : Weights C n r
  pub as_many : length m ≡ length r

abbrev pub Low : List ℕ → Type 0
Low m = (j : ℕ) → get_or m j 0 ≤ greatest_level
