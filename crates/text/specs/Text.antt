-- What the program writes: numbers and rows as text. A text is the list of its ASCII codes.
-- Assumes nothing.
use Rattle.std.specs.Prelude.{cond, ◌≡◌, ℕ, zero, suc, ◌+◌, ◌*◌, ◌/◌, ◌%◌, ltb, length, take, drop, get_or}
use mathlib.Core.List.{List, [], ◌∷◌, ◌++◌, flat_map}
use Rattle.definitions.specs.Field.{Code}
use Rattle.memory.specs.Laid.{laid}

-- the last hexadecimal digit of a number, "lower case"
abbrev pub hex_digit : ℕ → ℕ
hex_digit x = cond (ltb (x % 16) 10) (48 + x % 16) (87 + x % 16)

-- one digit says each of sixteen symbols; of thirty-two "each symbol as two hexadecimal digits" (document 02, order 13)
abbrev pub symbol_text : Code → ℕ → List ℕ
symbol_text C x = cond (ltb 16 C.symbols) (hex_digit (x / 16) ∷ hex_digit x ∷ []) (hex_digit x ∷ [])

-- of a message, f₀ first
abbrev pub message_text : Code → List ℕ → List ℕ
message_text C f = flat_map (symbol_text C) f

-- a number in decimal, of at most w digits
unfoldable pub decimal_within : ℕ → ℕ → List ℕ
decimal_within zero x = []
decimal_within (suc w) x = cond (ltb x 10) ((48 + x) ∷ []) (decimal_within w (x / 10) ++ ((48 + x % 10) ∷ []))

-- no number has more digits than one more than itself
abbrev pub decimal : ℕ → List ℕ
decimal x = decimal_within (suc x) x

-- "listed ", "score ", " message ", "refused ", " at " and the line feed
abbrev pub listed_word : List ℕ
listed_word = 108 ∷ 105 ∷ 115 ∷ 116 ∷ 101 ∷ 100 ∷ 32 ∷ []

abbrev pub score_word : List ℕ
score_word = 115 ∷ 99 ∷ 111 ∷ 114 ∷ 101 ∷ 32 ∷ []

abbrev pub message_word : List ℕ
message_word = 32 ∷ 109 ∷ 101 ∷ 115 ∷ 115 ∷ 97 ∷ 103 ∷ 101 ∷ 32 ∷ []

abbrev pub refused_word : List ℕ
refused_word = 114 ∷ 101 ∷ 102 ∷ 117 ∷ 115 ∷ 101 ∷ 100 ∷ 32 ∷ []

abbrev pub at_word : List ℕ
at_word = 32 ∷ 97 ∷ 116 ∷ 32 ∷ []

abbrev pub line_feed : List ℕ
line_feed = 10 ∷ []

-- "`listed N`"
abbrev pub listed_line : ℕ → List ℕ
listed_line count = listed_word ++ decimal count ++ line_feed

module _ (C : Code) where
  -- "`score S message H`, H being k hexadecimal digits, lower case, f₀ first"
  abbrev pub row_line : ℕ → List ℕ → List ℕ
  row_line score message = score_word ++ decimal score ++ message_word ++ message_text C message ++ line_feed

  -- the line of row j of k symbols that lie one after the other, and the lines of the first rows
  abbrev pub line_of : ℕ → List ℕ → List ℕ → ℕ → List ℕ
  line_of k rows scores j = row_line (get_or scores j 0) (take k (drop (k * j) rows))

  unfoldable pub row_lines : ℕ → List ℕ → List ℕ → ℕ → List ℕ
  row_lines k rows scores zero = []
  row_lines k rows scores (suc j) = row_lines k rows scores j ++ line_of k rows scores j

-- "or `refused R at P`"
abbrev pub refused_line : ℕ → ℕ → List ℕ
refused_line number place = refused_word ++ decimal number ++ at_word ++ decimal place ++ line_feed

-- words were put at a place: where they end, and the memory after it
abbrev pub Puts : List ℕ → ℕ → List ℕ → ℕ → List ℕ → Type 0
Puts out at words end after = (end ≡ at + length words) × (length after ≡ length out) × (after ≡ laid out at words)
