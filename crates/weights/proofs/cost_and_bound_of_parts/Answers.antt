-- The stored cost of what passes the lines of the table is that of the record's bytes.
use Rattle.std.proofs.Common.{arith, rules}
use Rattle.alphabet.specs.Codes.{code_on}
use Rattle.definitions.proofs.Editing.{stored_means}
use Rattle.definitions.proofs.Held.{cost_bytes}
use Rattle.definitions.proofs.Table.{sizes_mean}
use Rattle.definitions.specs.Held.{held}
use Rattle.weights.proofs.Weighing.{cost_fits}
use Rattle.weights.proofs.cost_and_bound_of_parts.Goals as goal

-- The stored cost is that of all entries.
pub bound-bound-requires : goal.bound-bound-requires
bound-bound-requires c =
    let a = c.args in
    let C = code_on a.alphabet in
    let h = held a.n a.cost a.totals.now a.entries.now in
    let sized = sizes_mean C a.n a.k c.in_ok-sizes.ensures in
    let right = stored_means C h (rw c.rightly-right.ensures at c.in_ok-refuse_if.ensures) in
    let full = right.full in
    let paid = right.cost_is in
    let low = cost_fits a.alphabet a.entries.now (omega arith) c.in_ok-symbols.ensures in
    (omega arith, omega arith)

-- The table accepts: the stored cost is that of the record's bytes, and the bound is that of this cost.
pub returns : goal.returns
returns c =
    let a = c.args in
    let C = code_on a.alphabet in
    let h = held a.n a.cost a.totals.now a.entries.now in
    let sized = sizes_mean C a.n a.k c.in_ok-sizes.ensures in
    let stored = rw c.rightly-right.ensures at c.in_ok-refuse_if.ensures in
    let paid = cost_bytes C h (stored_means C h stored) sized.2 in
    search rules
