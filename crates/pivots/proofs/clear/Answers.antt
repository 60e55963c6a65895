-- The rows that are not zero in column j are listed first. Each pass takes from them in one block
-- more, by the factors that stood in column j at the entry.
use Rattle.std.proofs.Common.{◌≡◌, ◌/◌, ◌≤◌, length, arith}
use Rattle.pivots.proofs.Blocks.{lower_block, listed_rows}
use Rattle.instances.proofs.Codes.{field_on}
use Rattle.blocks.specs.Row.{block}
use Rattle.pivots.proofs.clear.Goals as goal

pub clear_block-requires-clause-target_rows : goal.clear_block-requires-clause-target_rows
clear_block-requires-clause-target_rows c =
    let same = c.loop-next.invariant.size in
    let there = c.requires.within.there in
    let room : c.args.rows ≤ length c.loop-next.system = omega arith in
    listed_rows _ _ _ _ _ _ _ _ room c.requires.system c.factors-n.ensures.1

pub loop-next-preserved : goal.loop-next-preserved
loop-next-preserved c =
    lower_block _ (field_on c.args.alphabet) c.loop-next.next (c.args.j / block) _ _ _ _ _ _ _ _ _ (omega arith) c.factors-n.ensures.1
    c.loop-next.invariant c.clear_block.ensures

-- The loop has ended at next = blocks, so the rows are cleared in all blocks from that of column j on.
pub returns : goal.returns
returns c =
    let fewer = c.requires.within.fewer in
    let e : c.loop-next.next ≡ c.args.blocks = omega arith in
    rw e at c.loop-next.invariant
