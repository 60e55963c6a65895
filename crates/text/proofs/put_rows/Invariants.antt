-- Each turn puts the line of one row behind the others; as many rows as there can be have room.
use Rattle.std.proofs.Common.{◌+◌, ◌*◌, ◌≤◌}
use Rattle.alphabet.specs.Codes.{code_on}
use Rattle.text.specs.Rooms.{longest_row_room}
use Rattle.text.specs.Text.{row_lines, Puts}
use Rattle.text.proofs.put_rows.Given as goal

-- The lines of the first j rows are put, and they end within the room of j longest lines.
abbrev pub invariant-loop-j : goal.invariant-loop-j
invariant-loop-j l = record {
  short : l.end ≤ l.at + longest_row_room * l.j;
  lines : Puts l.initial.out l.at (row_lines (code_on l.alphabet) l.k l.rows l.scores l.j) l.end l.out;
}
