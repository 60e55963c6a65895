use Rattle.std.proofs.Common.{◌*◌}
use Rattle.blocks.proofs.Filled.{Filling}
use Rattle.blocks.specs.Row.{block}
use Rattle.masks.specs.Masks.{kept_entry}
use Rattle.masks.proofs.keep.Given as goal

-- The first p blocks hold what the masks leave of the row's, and behind all blocks the row is zero.
abbrev pub invariant-loop-p : goal.invariant-loop-p
invariant-loop-p l = Filling (l.blocks * block) (l.p * block) (kept_entry l.row l.es l.asked l.order) l.out
