-- Document 01's input of the program and what it gives, byte for byte.
-- Assumes nothing.
use Rattle.std.specs.Prelude.{List, [], ◌∷◌, ◌++◌, ◌≡◌, ℕ, length, drop, replicate}
use Rattle.definitions.specs.Field.{sixteen}
use Rattle.output.specs.Program.{output}
use Rattle.text.specs.Text.{Puts}

-- "4,096 at symbol 1": sixteen numbers, low byte first, of which the second is 16 times 256
abbrev pub column : List ℕ
column = 0 ∷ 0 ∷ 0 ∷ 16 ∷ replicate 28 0

-- "For n 3, k 2, L 1, G 150, and 4,096 at symbol 1 in each position"
abbrev pub input : List ℕ
input = (3 ∷ 2 ∷ 1 ∷ 150 ∷ []) ++ column ++ column ++ column

-- "the whole output is: listed 1", and a line feed
abbrev pub first_line : List ℕ
first_line = 108 ∷ 105 ∷ 115 ∷ 116 ∷ 101 ∷ 100 ∷ 32 ∷ 49 ∷ 10 ∷ []

-- "score 3 message 10", and a line feed
abbrev pub second_line : List ℕ
second_line = 115 ∷ 99 ∷ 111 ∷ 114 ∷ 101 ∷ 32 ∷ 51 ∷ 32 ∷ 109 ∷ 101 ∷ 115 ∷ 115 ∷ 97 ∷ 103 ∷ 101 ∷ 32 ∷ 49 ∷ 48 ∷ 10 ∷ []

pub record Documented : Type 0 where
  pub bytes : length input ≡ 100
  pub gives : output sixteen input ≡ first_line ++ second_line
  -- so what is promised of the call, whatever memory it is lent: 28 bytes, in front of it, and what lies behind them stays
  pub written : (out after : List ℕ) (end : ℕ) → Puts out 0 (output sixteen input) end after → (end ≡ 28) × (after ≡ first_line ++ second_line ++ drop 28 out)
