-- Both blocks are read before either is put back, so the second row gets what the first was.
use Rattle.pivots.proofs.Blocks.{exchanged_in}
use Rattle.instances.proofs.Codes.{field_on}
use Rattle.pivots.proofs.exchange_block.Goals as goal

-- Both blocks are put back: that of row j into row r, and that of row r, scaled, into row j.
pub returns : goal.returns
returns c =
    let a = c.args in
    let h = c.requires.in_row in
    exchanged_in _ (field_on a.alphabet) a.at a.r a.j a.u a.system.now c.block-part.result c.block-other.result c.scaled-first.result c.put.new.row c.put-2.new.row
    c.requires.system h.1 h.2 h.3 c.block-part.ensures c.block-other.ensures c.scaled-first.ensures c.put.ensures c.put-2.ensures
