-- What an input has told of it: a refusal, or its list; and that the program's text tells it.
-- Assumes nothing.
use Rattle.std.specs.Prelude.{cond, List, map, ◌≢◌, ◌≡◌, ℕ, ltb, length, take, drop, get_or}
use Rattle.definitions.specs.Field.{Code}
use Rattle.definitions.specs.Limits.{greatest_rows}
use Rattle.definitions.specs.Listing.{list_of}
use Rattle.definitions.specs.Refusals.{tried, read_table}
use Rattle.definitions.specs.Weights.{matrix, score}
use Rattle.numbers.specs.Numbers.{numbers_of}
use Rattle.output.specs.Program.{symbols_of_rows, header_bytes, output}
use Rattle.text.specs.Text.{Puts}

-- a refusal's number and place, or the rows of a list in their order, each as its score and its message
pub data Told : Type 0 where
  refusal : ℕ → ℕ → Told
  list : List (ℕ × List ℕ) → Told

-- the list, with the score of each row
abbrev pub scored_list : Code → ℕ → ℕ → List ℕ → List (ℕ × List ℕ)
scored_list C n k m = map (λ (f : List ℕ). (score C n m f, f)) (list_of C n k m)

abbrev pub told_of : Code → ℕ → ℕ → ℕ → ℕ → List ℕ → Told
told_of C n k L G r = tried (read_table C n k L G r (symbols_of_rows C) greatest_rows) refusal (list (scored_list C n k (matrix L r)))

-- "bytes n, k, L, G, then 16n numbers", or 32n; "Fewer than four bytes is refusal 3 at 0"
abbrev pub told : Code → List ℕ → Told
told C input =
    cond (ltb (length input) header_bytes) (refusal 3 0)
    (told_of C (get_or input 0 0) (get_or input 1 0) (get_or input 2 0) (get_or input 3 0) (numbers_of (drop header_bytes input)))

-- the laws of the program's text, of any inputs
pub record TextTells (C : Code) : Type 0 where
  -- "any two results allowed by it are equal": the promise of the call determines how many bytes are written, and the whole memory after it
  pub one_output : (input out after other : List ℕ) (end last : ℕ) → Puts out 0 (output C input) end after → Puts out 0 (output C input) last other
      → (end ≡ last) × (after ≡ other)
  -- inputs that are answered by the same bytes have the same told of them, refusals too; and the other way round
  pub same_text : (a b : List ℕ) → output C a ≡ output C b → told C a ≡ told C b
  pub same_bytes : (a b : List ℕ) → told C a ≡ told C b → output C a ≡ output C b
  -- lists that differ are answered by different bytes
  pub lists_apart : (a b : List ℕ) (l m : List (ℕ × List ℕ)) → told C a ≡ list l → told C b ≡ list m → l ≢ m → output C a ≢ output C b
  -- no list is answered like a refusal
  pub list_or_refusal : (a b : List ℕ) (l : List (ℕ × List ℕ)) (number place : ℕ) → told C a ≡ list l → told C b ≡ refusal number place → output C a ≢ output C b
  -- what two calls wrote tells it, whatever memory was lent
  pub written_tells : (a b out other after later : List ℕ) (end last : ℕ) → Puts out 0 (output C a) end after → Puts other 0 (output C b) last later
      → take end after ≡ take last later → told C a ≡ told C b
