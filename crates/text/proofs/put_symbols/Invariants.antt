-- The symbols are put one behind the other, each in at most two digits.
use Rattle.std.proofs.Common.{◌+◌, ◌*◌, ◌≤◌, take}
use Rattle.alphabet.specs.Codes.{code_on}
use Rattle.text.specs.Text.{message_text, Puts}
use Rattle.text.proofs.put_symbols.Given as goal

-- The text of the symbols so far is put, and it ends within two digits for each of them.
abbrev pub invariant-loop-x : goal.invariant-loop-x
invariant-loop-x l = record {
  short : l.end ≤ l.at + 2 * l.x-index;
  text : Puts l.initial.out l.at (message_text (code_on l.alphabet) (take l.x-index l.message)) l.end l.out;
}
