-- The most bytes that the program reads and writes.
-- Assumes nothing.
use Rattle.std.specs.Prelude.{ℕ, ◌+◌, ◌*◌}
use Rattle.alphabet.specs.Codes.{most_places, most_positions}
use Rattle.definitions.specs.Field.{Code}
use Rattle.definitions.specs.Held.{places}
use Rattle.definitions.specs.Limits.{greatest_rows}
use Rattle.output.specs.Program.{header_bytes}
use Rattle.text.specs.Rooms.{listed_room, rows_room}

-- the bytes of the longest input that is not refused for its length, and of one number more
abbrev pub longest_of : Code → ℕ
longest_of C = header_bytes + 2 * (places C + 1)

-- of either alphabet
abbrev pub numbers_read : ℕ
numbers_read = most_places + 1

abbrev pub longest : ℕ
longest = header_bytes + 2 * numbers_read

-- the rows of either alphabet fit here
abbrev pub rows_lent : ℕ
rows_lent = greatest_rows * most_positions

-- the line of the count, and the lines of the rows
abbrev pub answer_room : ℕ
answer_room = listed_room + rows_room
