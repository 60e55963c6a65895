-- The loop goes up from the first position and leaves at the first column that is too heavy.
use Rattle.std.proofs.Common.{◌≡◌, ◌<◌, ℕ, false}
use Rattle.alphabet.specs.Codes.{code_on}
use Rattle.definitions.specs.Refusals.{bad_column}
use Rattle.reliabilities.proofs.columns_checked.Given as goal

-- No position before this one has reliabilities that sum to more than 4,096.
abbrev pub invariant-loop-position : goal.invariant-loop-position
invariant-loop-position l = (j : ℕ) → j < l.position → bad_column (code_on l.alphabet) l.reliabilities j ≡ false
