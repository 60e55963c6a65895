-- The record that is put together of the outcome and the parts is the one that the table for adding two makes.
use Rattle.std.proofs.Common.{refl}
use Rattle.definitions.specs.Editing.{add_table}
use Rattle.definitions.specs.Field.{sixteen}
use Rattle.definitions.specs.Held.{held_of, with_added}
use Rattle.editing.proofs.After.{record_promised}
use Rattle.matrix.specs.Record.{held_by}
use Rattle.editing.proofs.add.Goals as goal

pub returns-clause-matrix : goal.returns-clause-matrix
returns-clause-matrix c =
    let a = c.args in
    let m = held_by a.first in
    let other = held_by a.second in
    let made = c.add-outcome.ensures in
    (record_promised m (held_of sixteen m.n (with_added m.entries other.entries)) c.add-outcome.result _ _
    (add_table sixteen m other) refl c.recorded.ensures made.answer made.total_memory made.entry_memory).1
