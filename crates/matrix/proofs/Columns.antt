-- The columns of a matrix: they are loaded one by one, and their entries and their cost are those of the bytes.
-- Assumes nothing.
use mathlib.Core.List.{List, [], ◌++◌, map}
use mathlib.Core.Path.{◌≡◌, sym, ◌∙◌, ap}
use Prim.Native.Nat.{ℕ, ◌+◌, ◌*◌, ◌-◌, ◌≤◌, ◌<◌}
use native.Mathlib.Decide.{dec_lt}
use native.Mathlib.Nat.{mul-le-mul_left}
use native.Mathlib.Omega.{arith}
use lib.ListN.{length, take, drop, get_or, length-drop, get_or-append, get_or-eq_default, get_or-replicate}
use lib.Seq.{ext_get_or, get_or-take, get_or-drop, get_or-append-add, length-take-le}
use Rattle.alphabet.specs.Codes.{code_on, most_symbols, most_positions, most_places}
use Rattle.alphabet.specs.declared.Alphabet.TheVariants.{Sixteen, ThirtyTwo}
use Rattle.alphabet.specs.declared.Alphabet.{Alphabet}
use Rattle.definitions.proofs.Held.{Rightly, cost_bytes}
use Rattle.definitions.proofs.Sums.{sum_blocks, sum_tail}
use Rattle.definitions.proofs.Tools.{length_map_below, map_below_at, sum_ext}
use Rattle.definitions.proofs.Weights.{cost_le}
use Rattle.definitions.specs.Field.{Code}
use Rattle.definitions.specs.Held.{Held, places}
use Rattle.definitions.specs.Limits.{greatest_level}
use Rattle.definitions.specs.Tools.{below, sum}
use Rattle.definitions.specs.Weights.{entry, entry_cost, cost}
use Rattle.algebra.specs.Grid.{entry_of}
use Rattle.matrix.specs.Columns.{zero_column, column_of, zero_columns, matrix_of, matrix_cost, FrontCosts}
use Rattle.definitions.proofs.Loops.{row_within}
use Rattle.definitions.proofs.Zeros.{zero_at}

-- the entries of either alphabet have room
pub places_within : (w : Alphabet) → places (code_on w) ≤ most_places
places_within Sixteen = omega arith
places_within ThirtyTwo = omega arith

-- a column that is not used has no entry
zero_entry : (i b : ℕ) → entry_of zero_columns i b ≡ 0
zero_entry i b =
    elim (dec_lt i most_positions) [
      | yes l ↦ ap (λ (col : List ℕ). get_or col b 0) (get_or-replicate most_positions i zero_column [] l) ∙ zero_at most_symbols b
      | no l ↦ ap (λ (col : List ℕ). get_or col b 0) (get_or-eq_default zero_columns [] {n = i} (omega arith))
    ]

module _ (C : Code) (m : List ℕ) (n : ℕ) (small : n ≤ C.positions) (size : length m ≡ C.symbols * n) where
  used : (i b : ℕ) → i < n → b < C.symbols → entry_of (matrix_of C m n) i b ≡ entry C m i b
  used i b h k =
      ap (λ (col : List ℕ). get_or col b 0)
      (get_or-append (map (column_of C m) (below n)) (drop n zero_columns) [] i (rw (length_map_below (column_of C m) n) h)
      ∙ map_below_at (column_of C m) n i [] h)
      ∙ get_or-append (map (entry C m i) (below C.symbols)) (drop C.symbols zero_column) 0 b (rw (length_map_below (entry C m i) C.symbols) k)
      ∙ map_below_at (entry C m i) C.symbols b 0 k

  unused : (i b : ℕ) → n ≤ i → i < C.positions → b < C.symbols → entry_of (matrix_of C m n) i b ≡ entry C m i b
  unused i b h k l =
      let e : i ≡ length (map (column_of C m) (below n)) + (i - n) = rw (length_map_below (column_of C m) n) (omega arith) in
      let f : n + (i - n) ≡ i = omega arith in
      let past : C.symbols * n ≤ C.symbols * i = mul-le-mul_left C.symbols h in
      ap (λ (col : List ℕ). get_or col b 0)
      (ap (λ (j : ℕ). get_or (matrix_of C m n) j []) e
      ∙ get_or-append-add (map (column_of C m) (below n)) (drop n zero_columns) (i - n) []
      ∙ get_or-drop n zero_columns (i - n) [] ∙ ap (λ (j : ℕ). get_or zero_columns j []) f)
      ∙ zero_entry i b ∙ sym (get_or-eq_default m 0 {n = C.symbols * i + b} (omega arith))

  -- each entry of the matrix is that of the bytes, and zero in a column that is not used
  pub matrix_entry : (i b : ℕ) → i < C.positions → b < C.symbols → entry_of (matrix_of C m n) i b ≡ entry C m i b
  matrix_entry i b h k =
      elim (dec_lt i n) [
        | yes l ↦ used i b l k
        | no l ↦ unused i b (omega arith) h k
      ]

  pub matrix_cost_lem : matrix_cost C (matrix_of C m n) ≡ cost m
  matrix_cost_lem =
      let within : C.symbols * n ≤ C.symbols * C.positions = mul-le-mul_left C.symbols small in
      sum_ext C.positions (λ i. sum C.symbols (λ b. entry_cost (entry_of (matrix_of C m n) i b))) (λ i. sum C.symbols (λ b. entry_cost (get_or m (C.symbols * i + b) 0)))
      (λ i h. sum_ext C.symbols (λ b. entry_cost (entry_of (matrix_of C m n) i b)) (λ b. entry_cost (get_or m (C.symbols * i + b) 0)) (λ b k. ap entry_cost (matrix_entry i b h k)))
      ∙ sym (sum_blocks C.symbols C.positions (λ j. entry_cost (get_or m j 0)))
      ∙ sum_tail (length m) (C.symbols * C.positions) (λ j. entry_cost (get_or m j 0)) (omega arith) (λ j h. ap entry_cost (get_or-eq_default m 0 {n = j} h))

-- a column that is copied into one of zeros
pub column_laid : (C : Code) (m col part : List ℕ) (i q n : ℕ) → q ≡ C.symbols → q * i + q ≤ length m → col ≡ zero_column → n ≡ q → part ≡ take n (drop (q * i) m)
    → part ++ drop q col ≡ column_of C m i
column_laid C m col part i q n is h zeros many copied =
    let f : ℕ → ℕ = λ j. get_or m (q * i + j) 0 in
    let size = length-take-le q (drop (q * i) m) (omega (arith, length-drop (q * i) m)) in
    let full = length_map_below f q in
    let each : take q (drop (q * i) m) ≡ map f (below q) =
    ext_get_or 0 (take q (drop (q * i) m)) (map f (below q)) (size ∙ sym full)
    (λ j w.
    let low : j < q = omega arith in
    get_or-take q (drop (q * i) m) j 0 low ∙ get_or-drop (q * i) m j 0 ∙ sym (map_below_at f q j 0 low)) in
    rw (copied, many, zeros, each) (ap (λ n. map (λ j. get_or m (n * i + j) 0) (below n) ++ drop n zero_column) is)

-- the next column to be laid is one of zeros
pub next_column : (C : Code) (m : List ℕ) (i : ℕ) → i < most_positions → get_or (matrix_of C m i) i [] ≡ zero_column
next_column C m i h =
    let e : i ≡ length (map (column_of C m) (below i)) + 0 = rw (length_map_below (column_of C m) i) (omega arith) in
    let f : i + 0 ≡ i = omega arith in
    ap (λ (j : ℕ). get_or (matrix_of C m i) j []) e ∙ get_or-append-add (map (column_of C m) (below i)) (drop i zero_columns) 0 [] ∙ get_or-drop i zero_columns 0 []
    ∙ ap (λ (j : ℕ). get_or zero_columns j []) f ∙ get_or-replicate most_positions i zero_column [] h

-- of entries within limits it is at most so many times the cost of the greatest
pub cost_small : (C : Code) (m : List ℕ) → length m ≤ places C → ((j : ℕ) → get_or m j 0 ≤ greatest_level) → cost m ≤ places C * entry_cost greatest_level
cost_small C m size h = let bounded = cost_le m greatest_level h (length m) in omega arith

-- entries that the bytes of n positions stand in front of, as columns
module _ (C : Code) (n price : ℕ) (e : List ℕ) (small : n ≤ C.positions) (h : FrontCosts C n price e) (columns : List (List ℕ)) (loaded : columns ≡ matrix_of C e n) where
  column_in_front : (i : ℕ) → i < n → column_of C e i ≡ column_of C (take (C.symbols * n) e) i
  column_in_front i l =
      let front = take (C.symbols * n) e in
      let w = row_within C.symbols i n (C.symbols * n) l (omega arith) in
      let size : (x : List ℕ) → length (map (entry C x i) (below C.symbols)) ≡ C.symbols = λ x. length_map_below (entry C x i) C.symbols in
      ap (λ (col : List ℕ). col ++ drop C.symbols zero_column)
      (ext_get_or 0 (map (entry C e i) (below C.symbols)) (map (entry C front i) (below C.symbols)) (size e ∙ sym (size front))
      (λ b k.
      let low : b < C.symbols = (let s = size e in omega arith) in
      map_below_at (entry C e i) C.symbols b 0 low ∙ sym (get_or-take (C.symbols * n) e (C.symbols * i + b) 0 (omega arith)) ∙ sym (map_below_at (entry C front i) C.symbols b 0 low)))

  -- the columns are those of the bytes
  pub columns_front : columns ≡ matrix_of C (take (C.symbols * n) e) n
  columns_front =
      let front = take (C.symbols * n) e in
      let size : (x : List ℕ) → length (map (column_of C x) (below n)) ≡ n = λ x. length_map_below (column_of C x) n in
      loaded
      ∙ ap (λ (cols : List (List ℕ)). cols ++ drop n zero_columns)
      (ext_get_or [] (map (column_of C e) (below n)) (map (column_of C front) (below n)) (size e ∙ sym (size front))
      (λ i l.
      let within : i < n = (let s = size e in omega arith) in
      map_below_at (column_of C e) n i [] within ∙ column_in_front i within ∙ sym (map_below_at (column_of C front) n i [] within)))

  -- and cost what they do
  pub columns_cost : price ≡ matrix_cost C columns
  columns_cost =
      h.paid ∙ sym (matrix_cost_lem C (take (C.symbols * n) e) n small (length-take-le (C.symbols * n) e h.within)) ∙ ap (matrix_cost C) (sym columns_front)

-- a record that is rightly held
pub rightly_priced : (C : Code) (h : Held) → Rightly C h → h.n ≤ C.positions → FrontCosts C h.n h.cost h.entries
rightly_priced C h r small = record {
  within = (let w : C.symbols * h.n ≤ places C = mul-le-mul_left C.symbols small in let s = r.full in omega arith);
  paid = cost_bytes C h r small;
}
