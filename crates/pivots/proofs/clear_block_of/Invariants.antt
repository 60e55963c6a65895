use Rattle.std.proofs.Common.{◌+◌}
use Rattle.alphabet.specs.Codes.{code_on}
use Rattle.pivots.specs.System.{rows_of, factors_of, DoneIn}
use Rattle.blocks.specs.Row.{block}
use Rattle.pivots.proofs.clear_block_of.Given as goal

-- The first of the listed rows have lost their multiples of row j in this block.
abbrev pub invariant-loop-target : goal.invariant-loop-target
invariant-loop-target g l = DoneIn (code_on l.fn.alphabet) l.at (l.at + block) l.j l.target-index (rows_of l.targets) (factors_of l.targets) l.initial.system l.system
