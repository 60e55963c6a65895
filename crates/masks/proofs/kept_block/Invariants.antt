use Rattle.std.proofs.Common.{◌≡◌, length}
use Rattle.blocks.specs.Row.{block, Front}
use Rattle.masks.specs.Masks.{kept_entry}
use Rattle.masks.proofs.kept_block.Given as goal

-- The first k entries of part, which is a block, are what their masks leave.
abbrev pub invariant-loop-k : goal.invariant-loop-k
invariant-loop-k l = (length l.part ≡ block) × Front l.k (kept_entry l.a l.es l.asked l.order) l.part
