-- The loop writes one multiplicity a round: by one law the front grows by it, and the rest is kept.
use Rattle.std.proofs.Common.{◌≡◌, ◌++◌, take, drop}
use Rattle.definitions.specs.Weights.{matrix}
use Rattle.weights.proofs.inside.multiplicities_into.Given as goal

-- The first i multiplicities are written, and behind them the memory is as it was.
abbrev pub invariant-loop-i : goal.invariant-loop-i
invariant-loop-i l = l.out ≡ matrix l.level (take l.i l.reliabilities) ++ drop l.i l.initial.out
