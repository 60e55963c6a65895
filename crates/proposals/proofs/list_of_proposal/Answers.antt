-- The lines of the table say what the list asks for, of the matrix as it was turned.
use Rattle.std.proofs.Common.{◌*◌}
use Rattle.alphabet.specs.Codes.{code_on}
use Rattle.definitions.proofs.Table.{entries_mean}
use Rattle.turning.proofs.Turned.{turned_bytes, turned_costs}
use Rattle.proposals.proofs.Given.{low_front, given_of_lines}
use Rattle.proposals.proofs.list_of_proposal.Goals as goal

pub list_proposed-requires-clause-front_costs : goal.list_proposed-requires-clause-front_costs
list_proposed-requires-clause-front_costs c =
    let a = c.args in
    let C = code_on a.alphabet in
    let m = a.matrix.now in
    let size = entries_mean (C.symbols * a.n) m c.in_ok-entries.ensures in
    let costs = turned_costs C a.n size c.turn-cost.ensures in
    let low = low_front (C.symbols * a.n) m c.turn-cost.new.entries (turned_bytes C a.n size c.turn-cost.ensures) c.in_ok-symbols.ensures in (
      costs,
      given_of_lines C a.n a.k a.degree c.in_ok-count.count a.coefficients.now c.turn-cost.new.entries c.in_ok-sizes.ensures c.in_ok-count.ensures.tried
          c.in_ok-count.ensures.count c.in_ok-coefficients_checked.ensures c.in_ok-symbols_checked.ensures.symbols costs.within low,
    )
