-- What each step of the elimination makes of the rows.
-- Assumes nothing.
use Rattle.std.specs.Prelude.{List, [], map, ◌≡◌, ℕ, ◌*◌, ◌≤◌, ◌<◌, length, get_or}
use Rattle.algebra.specs.Grid.{entry_of}
use Rattle.definitions.specs.Field.{Code, numbers}
use Rattle.definitions.specs.Limits.{greatest_limit}
use Rattle.linear.specs.Columns.{Between, Exchanged, Lowered, Targets, Listed, Done}
use Rattle.linear.specs.Rows.{SymbolRows, SameSolutions, Triangle}
use Rattle.blocks.specs.Row.{width, block}
use Rattle.pivots.specs.declared.Target.{Target}

-- rows of symbols, each of its width
pub record System (C : Code) (m : List (List ℕ)) : Type 0 where
  pub wide : (t : ℕ) → t < length m → length (get_or m t []) ≡ width
  pub symbols : SymbolRows C m

-- the rows that count are there, and are fewer than the columns of the blocks, which lie within a row
pub record Within (rows blocks : ℕ) (m : List (List ℕ)) : Type 0 where
  pub there : rows ≤ length m
  pub few : rows ≤ greatest_limit
  pub fewer : rows < blocks * block
  pub inside : blocks * block ≤ width

-- rows r and j change places in some columns, and the one that comes to j is scaled by u
pub record ExchangedIn (C : Code) (from to r j u : ℕ) (m b : List (List ℕ)) : Type 0 where
  pub size : length b ≡ length m
  pub system : System C b
  pub columns : Between (Exchanged (numbers C) r j u) from to (entry_of m) (entry_of b)

-- column j
abbrev pub column_of : List (List ℕ) → ℕ → ℕ → ℕ
column_of m j t = entry_of m t j

-- the rows of those that lose a multiple of the pivot row, and their factors
abbrev pub rows_of : List Target → List ℕ
rows_of targets = map (λ (t : Target). t.row) targets

abbrev pub factors_of : List Target → List ℕ
factors_of targets = map (λ (t : Target). t.factor) targets

-- the rows behind j that are not zero in column j are listed, with their entries there
abbrev pub ListedRows : ℕ → ℕ → ℕ → List (List ℕ) → List ℕ → List ℕ → Type 0
ListedRows rows j n m places c = Listed rows j n (column_of m j) (λ (i : ℕ). get_or places i 0) (λ (i : ℕ). get_or c i 0)

-- the first n places are different rows behind j
abbrev pub TargetRows : ℕ → ℕ → ℕ → List ℕ → Type 0
TargetRows R j n places = Targets R j n (λ (i : ℕ). get_or places i 0)

-- the first n factors are symbols
abbrev pub Factors : Code → ℕ → List ℕ → Type 0
Factors C n c = (i : ℕ) → i < n → get_or c i 0 < C.symbols

-- the first n places have lost their factors times row j in some columns
pub record DoneIn (C : Code) (from to j n : ℕ) (places c : List ℕ) (m b : List (List ℕ)) : Type 0 where
  pub size : length b ≡ length m
  pub system : System C b
  pub done : Done C from to j n (λ (i : ℕ). get_or places i 0) (λ (i : ℕ). get_or c i 0) (entry_of m) (entry_of b)

-- the rows behind j have lost x t times row j in some columns
pub record LoweredIn (C : Code) (from to R j : ℕ) (x : ℕ → ℕ) (m b : List (List ℕ)) : Type 0 where
  pub size : length b ≡ length m
  pub system : System C b
  pub columns : Between (Lowered (numbers C) R j x) from to (entry_of m) (entry_of b)

-- the columns before j are a triangle, and the solutions are those of o
pub record Eliminated (C : Code) (rows w j : ℕ) (o m : List (List ℕ)) : Type 0 where
  pub size : length m ≡ length o
  pub system : System C m
  pub same : SameSolutions C rows w o m
  pub triangle : Triangle rows j m
