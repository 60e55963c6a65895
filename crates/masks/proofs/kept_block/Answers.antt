-- Each pass puts one entry more, as its mask lets it.
use Rattle.std.proofs.Common.{ap, bit_and, get_or, arith, rules}
use Rattle.blocks.proofs.Blocks.{front_more}
use Rattle.masks.specs.Masks.{kept_entry}
use Rattle.masks.proofs.kept_block.Goals as goal

pub loop-k-preserved : goal.loop-k-preserved
loop-k-preserved c =
    let a = c.args in
    let k = c.loop-k.k in
    (search rules, front_more k _ (kept_entry a.a.now a.es.now a.asked a.order) c.loop-k.part (omega arith) c.loop-k.invariant.1 (ap (bit_and (get_or a.a.now k 0)) c.mask.ensures))
