-- Two texts are put one behind the other: the line of the count, then the lines of the rows.
use Rattle.std.proofs.Common.{arith}
use Rattle.alphabet.specs.Codes.{code_on}
use Rattle.text.proofs.Putting.{puts_more}
use Rattle.text.specs.Text.{listed_line, row_lines}
use Rattle.output.proofs.put_list.Goals as goal

-- The rows begin where the line of the count ended, so both together are put at 0.
pub returns : goal.returns
returns c =
    let a = c.args in
    let listed = c.put_listed-end in
    let rows = c.put_rows in
    puts_more a.out.now listed.new.out rows.new.out (listed_line a.count) (row_lines (code_on a.alphabet) a.k a.rows.now a.scores.now a.count) 0
    listed.result rows.result (omega arith) listed.ensures.text rows.ensures
