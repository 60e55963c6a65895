use Rattle.std.proofs.Common.{◌*◌, ◌/◌}
use Rattle.alphabet.specs.Codes.{code_on}
use Rattle.pivots.specs.System.{LoweredIn, column_of}
use Rattle.blocks.specs.Row.{block}
use Rattle.pivots.proofs.clear.Given as goal

-- The listed rows have lost their multiples of row j in the blocks from that of column j up to next.
abbrev pub invariant-loop-next : goal.invariant-loop-next
invariant-loop-next l = LoweredIn (code_on l.alphabet) (l.j / block * block) (l.next * block) l.rows l.j (column_of l.initial.system l.j) l.initial.system l.system
