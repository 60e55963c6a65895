-- Where a search through the columns ends.
-- Assumes nothing.
use mathlib.Core.Bool.{false}
use mathlib.Core.List.{List}
use mathlib.Core.Path.{◌≡◌, sym}
use Prim.Native.Nat.{ℕ, ◌+◌, ◌≤◌, ◌<◌}
use native.Mathlib.Omega.{arith}
use borrow.Author.Count.{below_more}
use Rattle.definitions.proofs.Columns.{column_taken, column_refused}
use Rattle.definitions.proofs.Tools.{smallest_is}
use Rattle.definitions.specs.Field.{Code}
use Rattle.definitions.specs.Limits.{greatest_sum}
use Rattle.definitions.specs.Refusals.{bad_column}
use Rattle.definitions.specs.Tools.{smallest}
use Rattle.definitions.specs.Weights.{sum_of_column}

-- the columns that a search has passed sum to at most 4,096
module _ (C : Code) (r : List ℕ) (n i : ℕ) (passed : (j : ℕ) → j < i → bad_column C r j ≡ false) where
  -- the next sums to more: it is the first
  pub column_found : (total : ℕ) → i < n → total ≡ sum_of_column C r i → greatest_sum < total → i ≡ smallest (bad_column C r) n
  column_found total h e bad = sym (smallest_is (bad_column C r) n i (omega arith) passed (λ _. column_refused C r i (rw e at bad)))

  -- it does not, and is passed too
  pub column_passed : (total : ℕ) → total ≡ sum_of_column C r i → total ≤ greatest_sum → (j : ℕ) → j < i + 1 → bad_column C r j ≡ false
  column_passed total e good = below_more (λ (j : ℕ). bad_column C r j ≡ false) i passed (column_taken C r i (rw e at good))

  -- none is left
  pub no_column : n ≤ i → n ≡ smallest (bad_column C r) n
  no_column h = sym (smallest_is (bad_column C r) n n (omega arith) (λ j l. passed j (omega arith)) (λ l. let z : ⊥ = omega arith in absurd z))
