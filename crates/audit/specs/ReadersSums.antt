-- "The reader's sums" (document 02, order 1), as one statement of the definitions.
-- Assumes nothing.
use Rattle.std.specs.Prelude.{true, false, List, ◌≡◌, ℕ, ◌≤◌, ◌<◌}
use Rattle.definitions.specs.Field.{Code}
use Rattle.definitions.specs.Limits.{greatest_sum}
use Rattle.definitions.specs.Refusals.{columns}
use Rattle.definitions.specs.Weights.{entry, sum_of_column, matrix}

-- "A column of zeros is an erased mark": of the reliabilities, or of a matrix
abbrev pub Erased : Code → List ℕ → ℕ → Type 0
Erased C r i = (b : ℕ) → b < C.symbols → entry C r i b ≡ 0

-- of the first n columns
pub record ReadersSums (C : Code) : Type 0 where
  -- "From now a column may sum to anything from 0 to 4,096"
  pub columns_pass : (n : ℕ) (r : List ℕ) → ((i : ℕ) → i < n → sum_of_column C r i ≤ greatest_sum) → (columns C n r).given ≡ false
  -- "refusal 6 is given exactly when a sum is greater", at "the first bad position"
  pub columns_mean : (n : ℕ) (r : List ℕ) → (columns C n r).given ≡ false → (i : ℕ) → i < n → sum_of_column C r i ≤ greatest_sum
  pub columns_refused : (n : ℕ) (r : List ℕ) → (columns C n r).given ≡ true
      → ((columns C n r).place < n) × (greatest_sum < sum_of_column C r (columns C n r).place)
      × ((i : ℕ) → i < (columns C n r).place → sum_of_column C r i ≤ greatest_sum)
  -- "A column of zeros is an erased mark with all multiplicities zero", at every level; its sum is one that is taken
  pub erased_mark : (r : List ℕ) (L i : ℕ) → Erased C r i → Erased C (matrix L r) i
  pub erased_taken : (r : List ℕ) (i : ℕ) → Erased C r i → sum_of_column C r i ≤ greatest_sum
