-- A word, a number and a line feed are put in turn.
use Rattle.std.proofs.Common.{arith}
use Rattle.text.proofs.Putting.{begun, ◌▸◌, puts_in_turn}
use Rattle.text.proofs.put_listed.Goals as goal

-- The three texts are the line of the count.
pub returns-clause-text : goal.returns-clause-text
returns-clause-text c =
    puts_in_turn (omega arith) (begun ▸ c.put-named.ensures ▸ c.put_decimal-counted.ensures.text ▸ c.put.ensures)
