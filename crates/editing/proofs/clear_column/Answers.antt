-- The record that is put together of the outcome and the parts is the one that the table for clearing a column makes.
use Rattle.std.proofs.Common.{refl}
use Rattle.definitions.specs.Editing.{clear_table}
use Rattle.definitions.specs.Field.{sixteen}
use Rattle.definitions.specs.Held.{held_of, without_column}
use Rattle.editing.proofs.After.{record_promised}
use Rattle.matrix.specs.Record.{held_by}
use Rattle.editing.proofs.clear_column.Goals as goal

pub returns-clause-matrix : goal.returns-clause-matrix
returns-clause-matrix c =
    let a = c.args in
    let m = held_by a.m in
    let made = c.clear_column-outcome.ensures in
    (record_promised m (held_of sixteen m.n (without_column sixteen m.entries a.position)) c.clear_column-outcome.result _ _
    (clear_table sixteen m a.position) refl c.recorded.ensures made.answer made.total_memory made.entry_memory).1
