use Rattle.std.proofs.Common.{◌≡◌, ◌++◌, map, drop}
use Rattle.alphabet.specs.Codes.{code_on}
use Rattle.definitions.specs.Tools.{below}
use Rattle.definitions.specs.Weights.{sum_of_column}
use Rattle.matrix.proofs.lay_totals.Given as goal

-- The totals of the first i columns are laid, and behind them the memory is as it was.
abbrev pub invariant-loop-i : goal.invariant-loop-i
invariant-loop-i l = l.totals ≡ map (sum_of_column (code_on l.alphabet) l.entries) (below l.i) ++ drop l.i l.initial.totals
