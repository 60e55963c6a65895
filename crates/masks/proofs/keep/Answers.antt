-- The loop has filled the row from the front, a block at a time, and every block is filled behind it.
use Rattle.std.proofs.Common.{◌≡◌, ◌*◌, arith}
use Rattle.blocks.proofs.Filled.{filling_whole}
use Rattle.blocks.specs.Row.{block}
use Rattle.masks.proofs.keep.Goals as goal

pub returns : goal.returns
returns c =
    let e : c.loop-p.p ≡ c.args.blocks = omega arith in
    filling_whole (c.args.blocks * block) _ c.loop-p.out (omega arith) (rw e at c.loop-p.invariant)
