-- On Open the list has a first row.
use Rattle.std.proofs.Common.{arith}
use Rattle.alphabet.specs.Codes.{code_on}
use Rattle.opening.proofs.Opening.{opens, row_there}
use Rattle.opening.proofs.opened.Goals as goal

pub row-requires : goal.row-requires
row-requires c =
    let a = c.args in
    let there = row_there (code_on a.alphabet) a.k a.rows.now a.scores.now a.lead (opens c.in-Ok-Open.field-0-is c.in-Ok-Open.ensures) in
    omega arith
