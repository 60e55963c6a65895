-- A multiplicity matrix held by value, a column for each position with room for the symbols of either alphabet, of the bytes that it is lent as.
-- Assumes nothing.
use Rattle.std.specs.Prelude.{List, [], ◌++◌, map, ◌≡◌, ℕ, ◌*◌, ◌≤◌, length, take, drop, get_or, replicate}
use Rattle.alphabet.specs.Codes.{most_symbols, most_positions}
use Rattle.definitions.specs.Field.{Code}
use Rattle.definitions.specs.Tools.{below, sum}
use Rattle.definitions.specs.Weights.{entry, entry_cost, cost}

-- "unused columns are zero", and so is what a column has behind its symbols
abbrev pub zero_column : List ℕ
zero_column = replicate most_symbols 0

abbrev pub zero_columns : List (List ℕ)
zero_columns = replicate most_positions zero_column

module _ (C : Code) where
  -- the numbers of position i, one a symbol
  abbrev pub column_of : List ℕ → ℕ → List ℕ
  column_of m i = map (entry C m i) (below C.symbols) ++ drop C.symbols zero_column

  -- the columns of n positions, and unused ones
  abbrev pub matrix_of : List ℕ → ℕ → List (List ℕ)
  matrix_of m n = map (column_of m) (below n) ++ drop n zero_columns

  -- the cost of a column, and of all columns
  abbrev pub column_cost : List ℕ → ℕ
  column_cost c = sum C.symbols (λ (b : ℕ). entry_cost (get_or c b 0))

  abbrev pub matrix_cost : List (List ℕ) → ℕ
  matrix_cost a = sum C.positions (λ (i : ℕ). column_cost (get_or a i []))

  -- the bytes of n positions stand in front of these entries, and cost so much
  pub record FrontCosts (n price : ℕ) (e : List ℕ) : Type 0 where
    pub within : C.symbols * n ≤ length e
    pub paid : price ≡ cost (take (C.symbols * n) e)
