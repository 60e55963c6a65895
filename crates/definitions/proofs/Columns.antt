-- The columns of the reliabilities: which sums are taken, and where one is refused.
-- Assumes nothing.
use mathlib.Core.Bool.{true, false}
use mathlib.Core.List.{List}
use mathlib.Core.Path.{◌≡◌}
use Prim.Native.Nat.{ℕ, ◌≤◌, ◌<◌}
use native.Mathlib.Omega.{arith}
use borrow.Author.Tests.{lt-ltb, le-ltb, ltb-true, ltb-false}
use Rattle.definitions.proofs.Tools.{split, smallest_fails, smallest_passes}
use Rattle.definitions.specs.Field.{Code}
use Rattle.definitions.specs.Limits.{greatest_sum}
use Rattle.definitions.specs.Refusals.{bad_column, columns}
use Rattle.definitions.specs.Tools.{smallest}
use Rattle.definitions.specs.Weights.{sum_of_column}

module _ (C : Code) (r : List ℕ) where
  -- "a column may sum to anything from 0 to 4,096"
  pub column_taken : (i : ℕ) → sum_of_column C r i ≤ greatest_sum → bad_column C r i ≡ false
  column_taken i h = le-ltb greatest_sum (sum_of_column C r i) h

  -- "refusal 6 is given exactly when a sum is greater"
  pub column_refused : (i : ℕ) → greatest_sum < sum_of_column C r i → bad_column C r i ≡ true
  column_refused i h = lt-ltb greatest_sum (sum_of_column C r i) h

  -- the line is passed: no position's sum is greater
  pub columns_mean : (n : ℕ) → (columns C n r).given ≡ false → (i : ℕ) → i < n → sum_of_column C r i ≤ greatest_sum
  columns_mean n e i h =
      let none = ltb-false (smallest (bad_column C r) n) n e in
      ltb-false greatest_sum (sum_of_column C r i) (smallest_fails (bad_column C r) n i (omega arith))

  -- the line is given: the sum at its place is greater, and no sum before it is
  pub columns_refused : (n : ℕ) → (columns C n r).given ≡ true
      → ((columns C n r).place < n) × (greatest_sum < sum_of_column C r (columns C n r).place) × ((i : ℕ) → i < (columns C n r).place → sum_of_column C r i ≤ greatest_sum)
  columns_refused n e =
      let bad = ltb-true (smallest (bad_column C r) n) n e in (
        bad,
        ltb-true greatest_sum (sum_of_column C r (smallest (bad_column C r) n)) (smallest_passes (bad_column C r) n bad),
        λ i h. ltb-false greatest_sum (sum_of_column C r i) (smallest_fails (bad_column C r) n i h),
      )

  -- and where no position's sum is greater the line is passed
  pub columns_pass : (n : ℕ) → ((i : ℕ) → i < n → sum_of_column C r i ≤ greatest_sum) → (columns C n r).given ≡ false
  columns_pass n good =
      split (columns C n r).given
      (λ y.
      let bad = columns_refused n y in
      let high = bad.1 in
      let low = good (columns C n r).place bad.0 in
      let z : ⊥ = omega arith in absurd z)
      (λ f. f)
