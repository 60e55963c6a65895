-- Two laws take what the call for the list answers and leaves: there is room, and the text is right.
use Rattle.std.proofs.Common.{◌≡◌, ℕ, ◌≤◌, List, arith, length, replicate, subst}
use Rattle.std.proofs.lemmas.List.{length-replicate}
use Rattle.alphabet.proofs.Sizes.{sized}
use Rattle.alphabet.specs.Codes.{code_on}
use Rattle.definitions.specs.Limits.{greatest_rows}
use Rattle.instances.proofs.Codes.{field_on}
use Rattle.output.proofs.AnswerText.{holds, text_is}
use Rattle.output.specs.Program.{symbols_of_rows}
use Rattle.output.specs.Rooms.{rows_lent}
use Rattle.refusals.specs.Told.{told_counted}
use Rattle.text.specs.Text.{Puts}
use Rattle.output.proofs.answer.Goals as goal

-- The memory holds the rows that are counted.
pub put_answer-requires-clause-holds : goal.put_answer-requires-clause-holds
put_answer-requires-clause-holds c =
    let a = c.args in
    let w = a.alphabet in
    let list = c.list_of_reliabilities-told in
    let e = list.ensures in
    holds (code_on w) (field_on w) a.n a.k a.level a.limit a.reliabilities.now (replicate rows_lent 0) (replicate greatest_rows 0)
    (told_counted list.result) list.new.rows list.new.scores e.answer e.row_memory e.score_memory e.few

-- The text of the answer is put, and it is the page's answer to these numbers, since as much memory was lent as any list takes.
pub returns : goal.returns
returns c =
    let a = c.args in
    let w = a.alphabet in
    let list = c.list_of_reliabilities-told in
    let e = list.ensures in
    let put = c.put_answer in
    let z = sized w in
    let full = length-replicate {A = ℕ} rows_lent 0 in
    let enough : symbols_of_rows (code_on w) ≤ length (replicate {A = ℕ} rows_lent 0) = omega arith in
    subst (λ (words : List ℕ). Puts a.out.now 0 words put.result put.new.out)
    (text_is (code_on w) (field_on w) a.n a.k a.level a.limit a.reliabilities.now (replicate rows_lent 0) (replicate greatest_rows 0)
    (told_counted list.result) list.new.rows list.new.scores e.answer e.row_memory e.score_memory enough (length-replicate {A = ℕ} greatest_rows 0))
    put.ensures
