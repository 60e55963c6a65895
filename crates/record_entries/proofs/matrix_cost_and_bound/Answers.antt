-- A record that is accepted has no entry above 5, so its cost is small, and so is that of its
-- bytes; the bound is not above it, and a refusal names a place of the record: all fit sixteen
-- bits.
use Rattle.definitions.specs.Held.{held}
use Rattle.record_entries.proofs.Fits.{held_cost_narrow}
use Rattle.record_entries.proofs.matrix_cost_and_bound.Goals as goal

pub costed-requires : goal.costed-requires
costed-requires c =
    let a = c.args in
    let h = held a.n a.cost a.totals.now a.entries.now in
    rw c.cost_and_bound_of_parts.ensures (held_cost_narrow a.alphabet h a.k)
