-- The stored numbers are among what the lines pass: so the stored cost is that of the entries.
use Rattle.std.proofs.Common.{rules}
use Rattle.alphabet.specs.Codes.{code_on}
use Rattle.definitions.specs.Held.{held}
use Rattle.matrix.proofs.Stored.{stored_priced}
use Rattle.list.proofs.list_of_parts.Goals as goal

-- What is refused as not stored is what the line of the stored numbers refuses.
pub returns-in_err-refuse_if-2-clause-answer : goal.returns-in_err-refuse_if-2-clause-answer
returns-in_err-refuse_if-2-clause-answer c = search rules

pub list_priced-requires-clause-front_costs : goal.list_priced-requires-clause-front_costs
list_priced-requires-clause-front_costs c =
    let a = c.args in
    stored_priced (code_on a.alphabet) (held a.n a.cost a.totals.now a.entries.now) a.k c.rightly.ensures c.in_ok-refuse_if-2.ensures c.in_ok-sizes.ensures
