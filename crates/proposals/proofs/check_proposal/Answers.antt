-- The lines of the table say what the check asks for, of the matrix as it was turned.
use Rattle.std.proofs.Common.{◌*◌}
use Rattle.alphabet.specs.Codes.{code_on}
use Rattle.definitions.proofs.Table.{entries_mean}
use Rattle.turning.proofs.Turned.{turned_bytes, turned_costs}
use Rattle.proposals.proofs.Given.{low_front, given_of_lines}
use Rattle.proposals.proofs.check_proposal.Goals as goal

pub is_yes-requires : goal.is_yes-requires
is_yes-requires c =
    let a = c.args in
    let C = code_on a.alphabet in
    let m = a.matrix.now in
    let size = entries_mean (C.symbols * a.n) m c.in_ok-entries.ensures in
    given_of_lines C a.n a.k a.degree c.in_ok-count.count a.coefficients.now c.turn.new.entries c.in_ok-sizes.ensures c.in_ok-count.ensures.tried
    c.in_ok-count.ensures.count c.in_ok-coefficients_checked.ensures c.in_ok-symbols_checked.ensures.symbols (turned_costs C a.n size c.turn.ensures).within
    (low_front (C.symbols * a.n) m c.turn.new.entries (turned_bytes C a.n size c.turn.ensures) c.in_ok-symbols.ensures)
