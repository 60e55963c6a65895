-- The lines of the table say what the check asks for: the stored numbers are among what they pass, so the stored cost is that of the entries.
use Rattle.alphabet.specs.Codes.{code_on}
use Rattle.definitions.proofs.Table.{above_means}
use Rattle.definitions.specs.Held.{held}
use Rattle.definitions.specs.Limits.{greatest_level}
use Rattle.matrix.proofs.Stored.{stored_priced}
use Rattle.proposals.proofs.Given.{given_of_lines}
use Rattle.proposals.proofs.check_proposal_of_parts.Goals as goal

pub is_yes-requires : goal.is_yes-requires
is_yes-requires c =
    let a = c.args in
    let C = code_on a.alphabet in
    let costs = stored_priced C (held a.n a.cost a.totals.now a.entries.now) a.k c.rightly.ensures c.in_ok-refuse_if.ensures c.in_ok-sizes.ensures in
    given_of_lines C a.n a.k a.degree c.in_ok-count.count a.coefficients.now a.entries.now c.in_ok-sizes.ensures c.in_ok-count.ensures.tried
    c.in_ok-count.ensures.count c.in_ok-coefficients_checked.ensures c.in_ok-symbols_checked.ensures.symbols costs.within
    (λ j _. above_means greatest_level a.entries.now c.in_ok-symbols.ensures j)
