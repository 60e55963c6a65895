-- The most bytes that each line of the text takes.
-- Assumes nothing.
use Rattle.std.specs.Prelude.{ℕ, ◌+◌, ◌*◌, length}
use Rattle.alphabet.specs.Codes.{most_positions}
use Rattle.definitions.specs.Limits.{greatest_rows}
use Rattle.text.specs.Text.{listed_word, score_word, message_word, refused_word, at_word, line_feed}

-- the most digits of a machine number in decimal
abbrev pub greatest_digits : ℕ
greatest_digits = 20

-- the line of the count
abbrev pub listed_room : ℕ
listed_room = length listed_word + greatest_digits + length line_feed

-- the line of a refusal
abbrev pub refused_room : ℕ
refused_room = length refused_word + greatest_digits + length at_word + greatest_digits + length line_feed

-- the line of a row of k symbols of the greater alphabet, of the longest row, and of as many as there can be
abbrev pub row_room : ℕ → ℕ
row_room k = length score_word + greatest_digits + length message_word + 2 * k + length line_feed

abbrev pub longest_row_room : ℕ
longest_row_room = row_room most_positions

abbrev pub rows_room : ℕ
rows_room = greatest_rows * longest_row_room
