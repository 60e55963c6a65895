-- What the program writes for what it reads.
-- Assumes nothing.
use Rattle.std.specs.Prelude.{cond, ◌≡◌, ℕ, ◌*◌, ◌≤◌, eqb, ltb, length, drop, get_or}
use mathlib.Core.List.{List, ◌++◌, map, flatten}
use Rattle.definitions.specs.Answers.{Answer}
use Rattle.definitions.specs.Field.{Code}
use Rattle.definitions.specs.Limits.{greatest_rows}
use Rattle.definitions.specs.Listing.{list_of}
use Rattle.definitions.specs.Refusals.{tried, read_table}
use Rattle.definitions.specs.Weights.{matrix, score}
use Rattle.numbers.specs.Numbers.{numbers_of}
use Rattle.text.specs.Text.{listed_line, row_line, row_lines, refused_line}

-- "It writes `listed N`, then for each row `score S message H`"
abbrev pub list_text : Code → ℕ → ℕ → List ℕ → List ℕ
list_text C n k m =
    listed_line (length (list_of C n k m)) ++ flatten (map (λ (f : List ℕ). row_line C (score C n m f) f) (list_of C n k m))

-- the symbols of as many rows as there can be, each as long as it can be
abbrev pub symbols_of_rows : Code → ℕ
symbols_of_rows C = greatest_rows * C.positions

-- "or `refused R at P`": the list from reliabilities, in memory that has room for any list
abbrev pub answer_to : Code → ℕ → ℕ → ℕ → ℕ → List ℕ → List ℕ
answer_to C n k L G r = tried (read_table C n k L G r (symbols_of_rows C) greatest_rows) refused_line (list_text C n k (matrix L r))

-- "bytes n, k, L, G"
abbrev pub header_bytes : ℕ
header_bytes = 4

-- "bytes n, k, L, G, then 16n numbers", or 32n; "Fewer than four bytes is refusal 3 at 0"
abbrev pub output : Code → List ℕ → List ℕ
output C input =
    cond (ltb (length input) header_bytes) (refused_line 3 0)
    (answer_to C (get_or input 0 0) (get_or input 1 0) (get_or input 2 0) (get_or input 3 0) (numbers_of (drop header_bytes input)))

-- the text of an answer, with the memory that holds the rows it counts
abbrev pub answer_text : Code → ℕ → Answer → List ℕ → List ℕ → List ℕ
answer_text C k a rows scores =
    cond (eqb a.number 0) (listed_line a.count ++ row_lines C k rows scores a.count) (refused_line a.number a.place)

-- that memory holds as many
abbrev pub Holds : Code → ℕ → Answer → List ℕ → List ℕ → Type 0
Holds C k a rows scores = a.number ≡ 0 → (k ≤ C.positions) × (a.count ≤ greatest_rows) × (k * a.count ≤ length rows) × (a.count ≤ length scores)
