-- With one entry set the record has as many entries as before, and none above 5 where the call is
-- accepted: its cost is small. A refusal names a place of the record. Both numbers fit sixteen
-- bits.
use Rattle.definitions.specs.Held.{held}
use Rattle.record_entries.proofs.Fits.{set_narrow}
use Rattle.record_entries.proofs.matrix_set_entry.Goals as goal

pub priced-requires : goal.priced-requires
priced-requires c =
    let a = c.args in
    let h = held a.n a.cost a.totals.now a.entries.now in
    rw c.set_entry.ensures.answer (set_narrow a.alphabet h a.position a.symbol a.entry)
