-- "Laws the auditors can use" (document 02, order 6), as one statement of the definitions.
-- Assumes nothing.
use Rattle.std.specs.Prelude.{true, List, ◌≢◌, ◌≡◌, ℕ, ◌+◌, ◌-◌, ◌≤◌, ◌<◌, get_or, replicate}
use Rattle.definitions.specs.Code.{codeword}
use Rattle.definitions.specs.Editing.{add_held}
use Rattle.definitions.specs.Field.{Code}
use Rattle.definitions.specs.Held.{Held, bytes_of, with_added, rightly}
use Rattle.definitions.specs.Limits.{greatest_level}
use Rattle.definitions.specs.Weights.{cost, score}
use Rattle.audit.specs.Words.{Message, added, multiplied, Accepted, products, agreeing, differing}

-- of messages and codewords, for all n and k
pub record CodewordLaws (C : Code) : Type 0 where
  -- "encoding the symbol-wise sum of two messages gives the symbol-wise sum of their codewords"
  pub sum_is_message : (k : ℕ) (f g : List ℕ) → Message C k f → Message C k g → Message C k (added C f g)
  pub sum_encoded : (n k : ℕ) (f g : List ℕ) → Message C k f → Message C k g
      → codeword C n (added C f g) ≡ added C (codeword C n f) (codeword C n g)
  -- "multiplying a message by a symbol multiplies its codeword"
  pub multiple_is_message : (k c : ℕ) (f : List ℕ) → c < C.symbols → Message C k f → Message C k (multiplied C c f)
  pub multiple_encoded : (n k c : ℕ) (f : List ℕ) → c < C.symbols → Message C k f
      → codeword C n (multiplied C c f) ≡ multiplied C c (codeword C n f)
  -- what is added to itself is zero, and zero is encoded as zero
  pub sum_with_itself : (k : ℕ) (f : List ℕ) → Message C k f → added C f f ≡ replicate k 0
  pub zero_encoded : (n k : ℕ) → codeword C n (replicate k 0) ≡ replicate n 0
  -- codewords of different messages agree in at most k - 1 positions, so they differ in at least n - k + 1
  pub agree_at_most : (n k : ℕ) (f g : List ℕ) → n ≤ C.positions → Message C k f → Message C k g → f ≢ g
      → agreeing n (codeword C n f) (codeword C n g) ≤ k - 1
  pub differ_at_least : (n k : ℕ) (f g : List ℕ) → k ≤ n → n ≤ C.positions → Message C k f → Message C k g → f ≢ g
      → n - k + 1 ≤ differing n (codeword C n f) (codeword C n g)
  -- and some do agree in as many
  pub nearest : (n k : ℕ) → 1 ≤ k → k ≤ n → n ≤ C.positions
      → (f : List ℕ) × Message C k f × (f ≢ replicate k 0) × (agreeing n (codeword C n f) (codeword C n (replicate k 0)) ≡ k - 1)

-- "For two matrices whose sum is accepted": of the record that `add` answers, and of its matrix
pub record SumLaws (C : Code) (h o : Held) : Type 0 where
  -- it is the matrix of the sums
  pub entries_added : bytes_of C (add_held C h o) ≡ with_added (bytes_of C h) (bytes_of C o)
  pub totals_added : (i : ℕ) → get_or (add_held C h o).totals i 0 ≡ get_or h.totals i 0 + get_or o.totals i 0
  -- "the score under the sum is the sum of the scores"
  pub score_of_sum : (f : List ℕ) → score C h.n (bytes_of C (add_held C h o)) f ≡ score C h.n (bytes_of C h) f + score C h.n (bytes_of C o) f
  -- "and its cost is both costs plus the sum of products of equal places"
  pub cost_of_sum : cost (bytes_of C (add_held C h o)) ≡ cost (bytes_of C h) + cost (bytes_of C o) + products (bytes_of C h) (bytes_of C o)
  pub stored_cost_of_sum : (add_held C h o).cost ≡ h.cost + o.cost + products h.entries o.entries

pub record Laws (C : Code) : Type 0 where
  pub codewords : CodewordLaws C
  pub sums : (h o : Held) → Accepted C h o → SumLaws C h o
  -- a sum is accepted of records that are rightly held and of one n, where none of its entries is above 5
  pub accepted : (h o : Held) → 2 ≤ h.n → h.n ≤ C.positions → h.n ≡ o.n → rightly C h ≡ true → rightly C o ≡ true
      → ((j : ℕ) → get_or h.entries j 0 + get_or o.entries j 0 ≤ greatest_level) → Accepted C h o
