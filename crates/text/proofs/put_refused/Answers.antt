-- Two words, two numbers and a line feed are put in turn; how long the line is, is not promised.
use Rattle.std.proofs.Common.{arith}
use Rattle.text.proofs.Putting.{begun, ◌▸◌, puts_in_turn}
use Rattle.text.proofs.put_refused.Goals as goal

-- The five texts are the line of the refusal.
pub returns : goal.returns
returns c =
    puts_in_turn (omega arith)
    (begun ▸ c.put-named.ensures ▸ c.put_decimal-numbered.ensures.text ▸ c.put-joined.ensures ▸ c.put_decimal-placed.ensures.text ▸ c.put.ensures)
