-- The record that is put together of the outcome and the parts is the one that the table for setting an entry makes.
use Rattle.std.proofs.Common.{refl}
use Rattle.definitions.specs.Editing.{set_table}
use Rattle.definitions.specs.Field.{sixteen}
use Rattle.definitions.specs.Held.{held_of, with_entry}
use Rattle.editing.proofs.After.{record_promised}
use Rattle.matrix.specs.Record.{held_by}
use Rattle.editing.proofs.set_entry.Goals as goal

pub returns-clause-matrix : goal.returns-clause-matrix
returns-clause-matrix c =
    let a = c.args in
    let m = held_by a.m in
    let made = c.set_entry-outcome.ensures in
    (record_promised m (held_of sixteen m.n (with_entry sixteen m.entries a.position a.symbol a.entry)) c.set_entry-outcome.result _ _
    (set_table sixteen m a.position a.symbol a.entry) refl c.recorded.ensures made.answer made.total_memory made.entry_memory).1
