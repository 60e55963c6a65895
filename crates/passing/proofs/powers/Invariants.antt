-- Each round stores the row of one power more, and goes on to the row of the next.
use Rattle.std.proofs.Common.{◌++◌, drop}
use Rattle.std.proofs.Math.ListN.{replicate}
use Rattle.alphabet.specs.Codes.{code_on}
use Rattle.definitions.specs.Limits.{greatest_level, greatest_count}
use Rattle.passing.proofs.Rows.{RowOf, PowersTo}
use Rattle.passing.proofs.powers.Given as goal

-- The rows of the powers that were met are filled in, zeros behind; and row is that of the next power.
abbrev pub invariant-loop-power : goal.invariant-loop-power
invariant-loop-power l =
    let C = code_on l.alphabet in
    RowOf C l.c l.power-index l.row
    × PowersTo C l.c l.power-index (l.power-items ++ drop l.fn.count (replicate greatest_count (replicate greatest_level 0)))
