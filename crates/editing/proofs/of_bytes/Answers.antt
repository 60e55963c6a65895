-- The parts are zeros before they are lent, and a refused `parts::of_bytes` leaves them so: then the record is all-zero with n 2, as promised.
use Rattle.std.proofs.Common.{refl}
use Rattle.definitions.specs.Editing.{bytes_table}
use Rattle.definitions.specs.Field.{sixteen}
use Rattle.definitions.specs.Held.{held_of, filled}
use Rattle.editing.proofs.After.{made_promised}
use Rattle.editing.proofs.of_bytes.Goals as goal

pub returns-clause-matrix : goal.returns-clause-matrix
returns-clause-matrix c =
    let n = c.args.n in
    let bytes = c.args.bytes.now in
    let made = c.of_bytes-outcome.ensures in
    (made_promised sixteen n (held_of sixteen n (filled sixteen bytes)) refl c.of_bytes-outcome.result _ _ (bytes_table sixteen n bytes) refl _ refl c.recorded.ensures
    made.answer made.total_memory made.entry_memory).1
