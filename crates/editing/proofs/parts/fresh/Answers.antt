-- What passes the table is cleared, so that it has no entry, and what `count` finds in no entries is the cost and the totals of a fresh record.
use Rattle.std.proofs.Common.{◌∙◌, ap}
use Rattle.alphabet.specs.Codes.{code_on}
use Rattle.definitions.proofs.Table.{entries_mean}
use Rattle.definitions.specs.Held.{held, held_of, places, no_entries, totals_of}
use Rattle.definitions.specs.Weights.{cost}
use Rattle.edits.proofs.Edits.{edit_goes_on, edit_counted}
use Rattle.refusals.proofs.Chain.{start, ◌▸◌}
use Rattle.turning.proofs.Filled.{laid_fresh}
use Rattle.editing.proofs.parts.fresh.Goals as goal

pub returns : goal.returns
returns c =
    let a = c.args in
    let C = code_on a.alphabet in
    let before = held a.n 0 a.totals.now a.entries.now in
    let after = held_of C a.n (no_entries C) in
    let totals_full = rw c.positions.ensures at c.in_ok-refuse_if.ensures in
    let entries_full = rw c.places.ensures at c.in_ok-refuse_if-2.ensures in
    let none = laid_fresh C a.entries.now c.clear.new.out (entries_mean (places C) a.entries.now entries_full) c.clear.ensures in
    let counted = edit_counted C before a.n (no_entries C) (c.count.ensures.0 ∙ ap cost none) (c.count.ensures.1 ∙ ap (totals_of C) none) none in
    let made = edit_goes_on before after (start ▸ c.in_ok-size.ensures ▸ totals_full ▸ entries_full) counted in
    record { answer = made.answered; total_memory = made.totals_are; entry_memory = made.entries_are }
