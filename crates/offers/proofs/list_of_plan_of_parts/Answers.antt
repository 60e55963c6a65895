-- The lines of the table say what the list asks for: the stored cost is that of the bytes in front of the entries.
use Rattle.alphabet.specs.Codes.{code_on}
use Rattle.definitions.proofs.Editing.{stored_means}
use Rattle.definitions.proofs.Table.{sizes_mean, entries_mean}
use Rattle.definitions.specs.Held.{held}
use Rattle.matrix.proofs.Columns.{rightly_priced}
use Rattle.offers.proofs.list_of_plan_of_parts.Goals as goal

pub list_planned-requires-clause-front_costs : goal.list_planned-requires-clause-front_costs
list_planned-requires-clause-front_costs c =
    let a = c.args in
    let C = code_on a.alphabet in
    let h = held a.n a.cost a.totals.now a.entries.now in
    let right = stored_means C h (rw c.rightly-right.ensures at c.in_ok-refuse_if-2.ensures) in
    let small = (sizes_mean C a.n a.k c.in_ok-sizes.ensures).2 in
    (rightly_priced C h right small, entries_mean _ a.reliabilities.now c.in_ok-entries.ensures)
