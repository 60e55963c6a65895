-- As for a plan in bytes, the value is at most 75; a refusal names an entry of the record, which
-- has as many as there are places, or a position: the value and the place fit sixteen bits.
use Rattle.definitions.specs.Held.{held}
use Rattle.record_entries.proofs.Fits.{held_check_narrow}
use Rattle.record_entries.proofs.matrix_check_plan.Goals as goal

pub planned-requires : goal.planned-requires
planned-requires c =
    let a = c.args in
    let h = held a.n a.cost a.totals.now a.entries.now in
    rw c.check_plan_of_parts.ensures (held_check_narrow a.alphabet h a.steps a.reliabilities.now)
