-- With a column cleared the record has as many entries as before, and none above 5 where the call
-- is accepted: its cost is small. A refusal names a place of the record. Both numbers fit sixteen
-- bits.
use Rattle.definitions.specs.Held.{held}
use Rattle.record_entries.proofs.Fits.{clear_narrow}
use Rattle.record_entries.proofs.matrix_clear_column.Goals as goal

pub priced-requires : goal.priced-requires
priced-requires c =
    let a = c.args in
    let h = held a.n a.cost a.totals.now a.entries.now in
    rw c.clear_column.ensures.answer (clear_narrow a.alphabet h a.position)
