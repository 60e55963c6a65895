-- The score and the message stand in one line: five texts are put in turn.
use Rattle.std.proofs.Common.{arith}
use Rattle.text.proofs.Putting.{begun, ◌▸◌, puts_in_turn}
use Rattle.text.proofs.put_row.Goals as goal

-- The five texts are the line of the row.
pub returns-clause-text : goal.returns-clause-text
returns-clause-text c =
    puts_in_turn (omega arith)
    (begun ▸ c.put-named.ensures ▸ c.put_decimal-scored.ensures.text ▸ c.put-joined.ensures ▸ c.put_symbols-written.ensures.text ▸ c.put.ensures)
