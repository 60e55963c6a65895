use Rattle.std.proofs.Common.{◌≡◌, ◌<◌, length}
use Rattle.definitions.specs.Limits.{greatest_limit}
use Rattle.pivots.specs.System.{rows_of, factors_of, ListedRows}
use Rattle.pivots.proofs.factors.Given as goal

-- Of the rows behind j and before t, the n that are not zero in column j are listed with their entries.
abbrev pub invariant-loop-t : goal.invariant-loop-t
invariant-loop-t l = (l.n < l.t) × (length l.targets ≡ greatest_limit) × ListedRows l.t l.j l.n l.system (rows_of l.targets) (factors_of l.targets)
