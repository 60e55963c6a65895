-- The parts are zeros before they are lent, and a refused `parts::fresh` leaves them so: then the record is all-zero with n 2, as promised.
use Rattle.std.proofs.Common.{refl}
use Rattle.definitions.specs.Editing.{fresh_table}
use Rattle.definitions.specs.Field.{sixteen}
use Rattle.definitions.specs.Held.{held_of, no_entries}
use Rattle.editing.proofs.After.{made_promised}
use Rattle.editing.proofs.fresh.Goals as goal

pub returns-clause-matrix : goal.returns-clause-matrix
returns-clause-matrix c =
    let n = c.args.n in
    let made = c.fresh-outcome.ensures in
    (made_promised sixteen n (held_of sixteen n (no_entries sixteen)) refl c.fresh-outcome.result _ _ (fresh_table sixteen n) refl _ refl c.recorded.ensures
    made.answer made.total_memory made.entry_memory).1
