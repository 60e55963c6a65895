-- Each pass puts one entry more of the block into the row.
use Rattle.std.proofs.Common.{◌≡◌, ℕ, ◌+◌, ◌-◌, ◌<◌, length, get_or, arith, ap}
use Rattle.blocks.proofs.Blocks.{changed_more}
use Rattle.blocks.proofs.put.Goals as goal

pub loop-i-preserved : goal.loop-i-preserved
loop-i-preserved c =
    let h : c.args.at + c.loop-i.i < length c.args.row.now = omega arith in
    let e : c.loop-i.i ≡ c.args.at + c.loop-i.i - c.args.at = omega arith in
    changed_more c.args.at c.loop-i.i _ _ c.args.row.now c.loop-i.row h c.loop-i.invariant (ap (λ (k : ℕ). get_or c.args.part.now k 0) e)
