-- The sum of two records has as many entries as the first, and none above 5 where the call is
-- accepted: its cost is small. A refusal names a place of a record. Both numbers fit sixteen bits.
use Rattle.definitions.specs.Held.{held}
use Rattle.record_entries.proofs.Fits.{add_narrow}
use Rattle.record_entries.proofs.matrix_add.Goals as goal

pub priced-requires : goal.priced-requires
priced-requires c =
    let a = c.args in
    let h = held a.n a.cost a.totals.now a.entries.now in
    let o = held a.other_n a.other_cost a.other_totals.now a.other_entries.now in
    rw c.add.ensures.answer (add_narrow a.alphabet h o)
