-- The sum is made in place, and counted.
use Rattle.edits.proofs.Rightly.{add_refused, add_low, add_right_done}
use Rattle.edits.proofs.add_right.Goals as goal

-- An entry is above 5: the lowest of them is refused, and the record is as it was.
pub returns-in-Some : goal.returns-in-Some
returns-in-Some c =
    let a = c.args in
    add_refused a.alphabet a.n a.cost a.totals.now a.entries.now c.requires.entries_value a.others.now c.in-Some.bad c.in-Some.ensures

-- No entry is above 5, so each sum fits a byte.
pub add_entries-requires-clause-low_sum : goal.add_entries-requires-clause-low_sum
add_entries-requires-clause-low_sum c =
    let a = c.args in
    add_low a.alphabet a.n a.cost a.totals.now a.entries.now c.requires.entries_value a.others.now c.in_default.ensures

-- No entry is above 5: the entries are the sum, and its cost and totals have been counted.
pub returns : goal.returns
returns c =
    let a = c.args in
    add_right_done a.alphabet a.n a.cost a.totals.now a.entries.now c.requires.entries_value a.others.now
    c.in_default.ensures c.add_entries.new.entries c.add_entries.ensures c.count.ensures.0 c.count.ensures.1
