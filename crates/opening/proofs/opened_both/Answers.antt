-- On Open the list that is judged has a first row: the second where the first has no scores, the first otherwise.
use Rattle.std.proofs.Common.{sym, arith, rules}
use borrow.Author.Tests.{eqb-true, eqb-false}
use Rattle.alphabet.specs.Codes.{code_on}
use Rattle.opening.proofs.Opening.{opens, row_in_judged}
use Rattle.opening.proofs.opened_both.Goals as goal

-- The first list has no rows, so the second is judged.
pub row-requires : goal.row-requires
row-requires c =
    let a = c.args in
    let judged = row_in_judged (code_on a.alphabet) a.first a.rows.now a.scores.now a.second a.others.now a.other_scores.now a.lead
    (opens c.in-Ok-Open.field-0-is c.in-Ok-Open.ensures) in
    let there = judged.0 (eqb-true _ _ (sym c.if-is_empty.ensures)) in
    omega arith

-- The first list has rows, so it is judged.
pub row-requires-else-is_empty : goal.row-requires-else-is_empty
row-requires-else-is_empty c =
    let a = c.args in
    let judged = row_in_judged (code_on a.alphabet) a.first a.rows.now a.scores.now a.second a.others.now a.other_scores.now a.lead
    (opens c.in-Ok-Open.field-0-is c.in-Ok-Open.ensures) in
    let there = judged.1 (eqb-false _ _ (sym c.if-is_empty.ensures)) in
    omega arith

-- What is handed back is the first row of the first list, where that list begins.
pub returns-else-is_empty : goal.returns-else-is_empty
returns-else-is_empty c =
    let is_so = opens c.in-Ok-Open.field-0-is c.in-Ok-Open.ensures in
    rw (is_so, sym c.if-is_empty.ensures) (search rules)
