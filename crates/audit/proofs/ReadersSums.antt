-- The laws of the reader's sums hold over any code: an erased mark weighs nothing, at every level.
-- Assumes nothing.
use mathlib.Core.List.{List}
use mathlib.Core.Path.{◌≡◌, ◌∙◌, ap}
use Prim.Native.Nat.{ℕ, ◌+◌, ◌*◌, ◌≤◌}
use native.Mathlib.Decide.{dec_lt}
use native.Mathlib.Omega.{arith}
use lib.ListN.{length, get_or-eq_default}
use Rattle.audit.specs.ReadersSums.{Erased, ReadersSums}
use Rattle.definitions.proofs.Columns.{columns_pass, columns_mean, columns_refused}
use Rattle.definitions.proofs.Tools.{sum_bound}
use Rattle.definitions.proofs.Weights.{length_matrix, matrix_at}
use Rattle.definitions.specs.Field.{Code}
use Rattle.definitions.specs.Limits.{greatest_sum}
use Rattle.definitions.specs.Weights.{entry, sum_of_column, multiplicity, matrix}

module _ (C : Code) where
  -- zeros sum to zero
  erased_taken : (r : List ℕ) (i : ℕ) → Erased C r i → sum_of_column C r i ≤ greatest_sum
  erased_taken r i none = let nothing = sum_bound C.symbols 0 (entry C r i) (λ b h. rw (none b h) (omega arith)) in omega arith

  erased_mark : (r : List ℕ) (L i : ℕ) → Erased C r i → Erased C (matrix L r) i
  erased_mark r L i none b h =
      elim (dec_lt (C.symbols * i + b) (length r)) [
        | yes l ↦ matrix_at L r (C.symbols * i + b) l ∙ ap (multiplicity L) (none b h) ∙ nothing
        | no l ↦ get_or-eq_default (matrix L r) 0 {n = C.symbols * i + b} (rw (length_matrix L r) (omega arith))
      ]
    where
      nothing : multiplicity L 0 ≡ 0
      nothing = omega arith

  pub readers_sums : ReadersSums C
  readers_sums = record {
    columns_pass = λ n r good. columns_pass C r n good;
    columns_mean = λ n r passed i h. columns_mean C r n passed i h;
    columns_refused = λ n r given. columns_refused C r n given;
    erased_mark = λ r L i none. erased_mark r L i none;
    erased_taken = λ r i none. erased_taken r i none;
  }
