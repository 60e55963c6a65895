-- The loop has filled the row from the front, with the product of two powers at each place, and all values are filled in.
use Rattle.std.proofs.Common.{◌≡◌, arith}
use Rattle.blocks.proofs.Filled.{filling_whole}
use Rattle.monomials.proofs.values_by.Goals as goal

pub returns : goal.returns
returns c =
    let e : c.loop-place.place ≡ c.args.count = omega arith in
    filling_whole c.args.count _ c.loop-place.row (omega arith) (rw e at c.loop-place.invariant)
