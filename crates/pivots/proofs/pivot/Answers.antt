-- The pivot is not zero, so it has an inverse: scaled by that, its row has 1 in column j. The row is
-- exchanged, and then the column is cleared below it.
use Rattle.std.proofs.Common.{arith}
use Rattle.alphabet.specs.Codes.{code_on}
use Rattle.algebra.specs.Grid.{entry_of}
use Rattle.pivots.proofs.Answered.{not_refused}
use Rattle.pivots.proofs.Blocks.{block_step}
use Rattle.pivots.proofs.Steps.{inverts}
use Rattle.instances.proofs.Codes.{field_on}
use Rattle.pivots.proofs.pivot.Goals as goal

-- The inverse is refused: that cannot be, since the pivot is a symbol and not zero.
pub returns-in_default : goal.returns-in_default
returns-in_default c =
    let a = c.args in
    absurd (not_refused (code_on a.alphabet) (entry_of a.system.now a.r a.j) (c.requires.system.symbols a.r a.j) c.requires.j_nonzero c.in_default.field-0 c.in_default.ensures)

pub exchange-requires-clause-r_in_bounds : goal.exchange-requires-clause-r_in_bounds
exchange-requires-clause-r_in_bounds c =
    let a = c.args in
    let within = c.requires.within in
    let u = inverts (code_on a.alphabet) (field_on a.alphabet) (entry_of a.system.now a.r a.j) c.in-Ok.u (c.requires.system.symbols a.r a.j) c.requires.j_nonzero c.in-Ok.ensures in
    (omega arith, omega arith, u.0)

-- The row is exchanged and the rows below are cleared, so the triangle has one column more.
pub returns : goal.returns
returns c =
    let a = c.args in
    let within = c.requires.within in
    let u = inverts (code_on a.alphabet) (field_on a.alphabet) (entry_of a.system.now a.r a.j) c.in-Ok.u (c.requires.system.symbols a.r a.j) c.requires.j_nonzero c.in-Ok.ensures in
    block_step _ (field_on a.alphabet) _ a.blocks _ _ a.j _ _ _ c.requires.system u.0 u.1 c.requires.j_le_r.0 c.requires.j_le_r.1 (omega arith) c.requires.triangle
    c.exchange.ensures c.clear.ensures
