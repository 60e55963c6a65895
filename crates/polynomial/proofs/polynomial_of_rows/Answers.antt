-- A system of so many rows of zeros is clear, and it has room for a cost that is at most its rows.
use Rattle.std.proofs.Common.{rules}
use Rattle.polynomial.proofs.Empty.{empty_clear}
use Rattle.polynomial.proofs.polynomial_of_rows.Goals as goal

pub polynomial_in-requires-clause-clear : goal.polynomial_in-requires-clause-clear
polynomial_in-requires-clause-clear g c = (empty_clear g.row.ROWS, search rules)
