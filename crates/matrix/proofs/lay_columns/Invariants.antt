use Rattle.std.proofs.Common.{◌≡◌}
use Rattle.alphabet.specs.Codes.{code_on}
use Rattle.matrix.specs.Columns.{matrix_of}
use Rattle.matrix.proofs.lay_columns.Given as goal

-- The columns of the first i positions are laid, and zeros stand behind them.
abbrev pub invariant-loop-i : goal.invariant-loop-i
invariant-loop-i l = l.columns ≡ matrix_of (code_on l.alphabet) l.entries l.i
