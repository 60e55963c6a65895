-- The matrix record of document 02, order 5: what it holds, what its entries define, and the matrices that its operations make.
-- Assumes nothing.
use Rattle.std.specs.Prelude.{Bool, ◌&&◌, List, ◌++◌, map, ℕ, ◌+◌, ◌*◌, eqb, length, get_or, take, drop, set, replicate}
use Rattle.definitions.specs.Field.{Code}
use Rattle.definitions.specs.Polynomial.{is_zero}
use Rattle.definitions.specs.Tools.{below, every}
use Rattle.definitions.specs.Weights.{cost, sum_of_column}

-- "Keep the cost and each column's total inside the matrix record"; "A record keeps its n". Whatever the numbers are
pub record Held : Type 0 where
  pub n : ℕ
  pub cost : ℕ
  pub totals : List ℕ
  pub entries : List ℕ

abbrev pub held : ℕ → ℕ → List ℕ → List ℕ → Held
held n cost totals entries = record { n = n; cost = cost; totals = totals; entries = entries }

module _ (C : Code) where
  -- the entries of all columns, used or not
  abbrev pub places : ℕ
  places = C.symbols * C.positions

  abbrev pub no_entries : List ℕ
  no_entries = replicate places 0

  -- "each column's total"
  abbrev pub totals_of : List ℕ → List ℕ
  totals_of e = map (sum_of_column C e) (below C.positions)

  -- "the stored numbers equal those defined by the entries"
  abbrev pub held_of : ℕ → List ℕ → Held
  held_of n e = held n (cost e) (totals_of e) e

  -- the entries of a matrix that is lent as bytes: "unused columns are zero"
  abbrev pub filled : List ℕ → List ℕ
  filled m = m ++ drop (length m) no_entries

  -- the bytes of a record: "Lent as bytes it has the same 16n layout"
  abbrev pub bytes_of : Held → List ℕ
  bytes_of h = take (C.symbols * h.n) h.entries

  -- "set one entry"
  abbrev pub with_entry : List ℕ → ℕ → ℕ → ℕ → List ℕ
  with_entry e i b x = set e (C.symbols * i + b) x

  -- "clear a column"
  abbrev pub without_column : List ℕ → ℕ → List ℕ
  without_column e i = take (C.symbols * i) e ++ replicate C.symbols 0 ++ drop (C.symbols * i + C.symbols) e

  -- every total is that of its column
  abbrev pub totals_right : List ℕ → List ℕ → Bool
  totals_right totals e = every C.positions (λ (i : ℕ). eqb (get_or totals i 0) (sum_of_column C e i))

  -- a total for each column and an entry for each place, stored numbers as the entries define them, and no "nonzero entry in an unused column"
  abbrev pub rightly : Held → Bool
  rightly h =
      eqb (length h.totals) C.positions
      && (eqb (length h.entries) places
      && (totals_right h.totals h.entries
      && (eqb h.cost (cost h.entries) && is_zero (drop (C.symbols * h.n) h.entries))))

-- "add another matrix entry by entry"
abbrev pub with_added : List ℕ → List ℕ → List ℕ
with_added d e = map (λ (j : ℕ). get_or d j 0 + get_or e j 0) (below (length d))
