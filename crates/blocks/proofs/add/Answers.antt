-- Each pass adds one entry of the block to an entry of the row that is still as it was.
use Rattle.std.proofs.Common.{◌≡◌, ℕ, ◌+◌, ◌-◌, ◌<◌, length, get_or, arith, ap, ap₂}
use Rattle.definitions.specs.Field.{sum_of}
use Rattle.blocks.proofs.Blocks.{changed_more}
use Rattle.blocks.proofs.add.Goals as goal

pub loop-i-preserved : goal.loop-i-preserved
unfolding sum_of
loop-i-preserved c =
    let h : c.args.at + c.loop-i.i < length c.args.row.now = omega arith in
    let e : c.loop-i.i ≡ c.args.at + c.loop-i.i - c.args.at = omega arith in
    let d = c.loop-i.invariant in
    let is_sum = ap₂ sum_of (d.patched.after (c.args.at + c.loop-i.i) (omega arith)) (ap (λ (k : ℕ). get_or c.args.part.now k 0) e) in
    changed_more c.args.at c.loop-i.i _ _ c.args.row.now c.loop-i.row h d is_sum
