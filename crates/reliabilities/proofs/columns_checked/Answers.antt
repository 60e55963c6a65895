-- What the loop has passed says where the line is given, and that it is passed where no column is left that begins within the list.
use Rattle.std.proofs.Common.{rules}
use Rattle.alphabet.specs.Codes.{code_on}
use Rattle.reliabilities.proofs.Passed.{columns_given}
use Rattle.reliabilities.proofs.columns_checked.Goals as goal

-- The column at this position is the first that is too heavy, so the line is given there.
pub returns-in_err-refuse_if : goal.returns-in_err-refuse_if
returns-in_err-refuse_if c =
    let a = c.args in
    let at = columns_given (code_on a.alphabet) a.reliabilities.now a.n c.loop-position.position c.loop-position.invariant in
    search (rules, at)
