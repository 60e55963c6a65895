use Rattle.std.proofs.Common.{◌≡◌, ◌++◌, drop, map}
use Rattle.definitions.specs.Tools.{below}
use Rattle.numbers.specs.Numbers.{number_at}
use Rattle.numbers.proofs.read.Given as goal

-- The first i numbers are written, and what lay behind them is kept.
abbrev pub invariant-loop-i : goal.invariant-loop-i
invariant-loop-i l = l.out ≡ map (number_at l.bytes) (below l.i) ++ drop l.i l.initial.out
