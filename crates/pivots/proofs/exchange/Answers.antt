-- Each pass exchanges the two rows in one block more, from the block of column j on.
use Rattle.std.proofs.Common.{◌≡◌, ◌/◌, arith}
use Rattle.pivots.proofs.Blocks.{exchange_more}
use Rattle.blocks.specs.Row.{block}
use Rattle.pivots.proofs.exchange.Goals as goal

pub loop-p-preserved : goal.loop-p-preserved
loop-p-preserved c = exchange_more _ c.loop-p.p (c.args.j / block) _ _ _ _ _ _ c.loop-p.auto.p c.loop-p.invariant c.exchange_block.ensures

-- The loop has ended at p = blocks, so the rows are exchanged in all blocks from that of column j on.
pub returns : goal.returns
returns c =
    let e : c.loop-p.p ≡ c.args.blocks = omega arith in
    rw e at c.loop-p.invariant
