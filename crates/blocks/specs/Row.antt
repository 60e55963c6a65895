-- Rows of symbols, and the blocks of columns in which they are worked on.
-- Assumes nothing.
use Rattle.std.specs.Prelude.{List, [], ◌++◌, map, ◌≡◌, ℕ, ◌+◌, ◌-◌, ◌*◌, ◌/◌, ◌≤◌, ◌<◌, length, drop, get_or, replicate}
use Rattle.algebra.specs.Grid.{Patched}
use Rattle.definitions.specs.Field.{Code}
use Rattle.definitions.specs.Limits.{greatest_limit}
use Rattle.definitions.specs.Tools.{below}

-- the columns that are worked on at a time
abbrev pub block : ℕ
block = 16

-- so many blocks that they hold more columns than the cost
abbrev pub blocks_for : ℕ → ℕ
blocks_for cost = cost / block + 1

-- the entries of a row
abbrev pub width : ℕ
width = blocks_for greatest_limit * block

-- the row whose entry k is f k, for k below n, and zero from n on
unfoldable pub filled : ℕ → (ℕ → ℕ) → List ℕ
filled n f = map f (below n) ++ drop n (replicate width 0)

-- a row that is zero from n on
pub record ZeroFrom (n : ℕ) (row : List ℕ) : Type 0 where
  pub wide : length row ≡ width
  pub zeros : (k : ℕ) → n ≤ k → get_or row k 0 ≡ 0

-- the first n entries of a list are those of f
abbrev pub Front : ℕ → (ℕ → ℕ) → List ℕ → Type 0
Front n f l = (k : ℕ) → k < n → get_or l k 0 ≡ f k

-- a block of symbols
abbrev pub SymbolBlock : Code → List ℕ → Type 0
SymbolBlock C a = (k : ℕ) → k < block → get_or a k 0 < C.symbols

-- a block from a place on lies within a row
abbrev pub InRow : ℕ → Type 0
InRow at = at + block ≤ width

-- the block of a row from a place on
abbrev pub BlockOf : ℕ → List ℕ → List ℕ → Type 0
BlockOf at row a = Front block (λ (k : ℕ). get_or row (at + k) 0) a

-- n entries of a row from a place on become those of f
pub record Changed (at n : ℕ) (f : ℕ → ℕ) (old new : List ℕ) : Type 0 where
  pub size : length new ≡ length old
  pub patched : Patched at (at + n) f (λ k. get_or old k 0) (λ k. get_or new k 0)

-- a block is put into a row from a place on
abbrev pub PutBlock : ℕ → List ℕ → List ℕ → List ℕ → Type 0
PutBlock at part old new = Changed at block (λ (k : ℕ). get_or part (k - at) 0) old new

-- a block is added to a row from a place on
abbrev pub AddedBlock : (ℕ → ℕ → ℕ) → ℕ → List ℕ → List ℕ → List ℕ → Type 0
AddedBlock plus at part old new = Changed at block (λ (k : ℕ). plus (get_or old k 0) (get_or part (k - at) 0)) old new

-- a sum of blocks
abbrev pub SummedBlock : (ℕ → ℕ → ℕ) → List ℕ → List ℕ → List ℕ → Type 0
SummedBlock plus a b r = Front block (λ (k : ℕ). plus (get_or a k 0) (get_or b k 0)) r

-- the n blocks from place h on are those from the first on, each with `high` added; those below h stay
pub record FilledTo (plus : ℕ → ℕ → ℕ) (h n : ℕ) (high : List ℕ) (old new : List (List ℕ)) : Type 0 where
  pub size : length new ≡ length old
  pub below : (c : ℕ) → c < h → get_or new c [] ≡ get_or old c []
  pub sums : (c : ℕ) → c < n → SummedBlock plus (get_or old c []) high (get_or new (h + c) [])

module _ (C : Code) where
  -- u times a block
  abbrev pub ScaledBlock : ℕ → List ℕ → List ℕ → Type 0
  ScaledBlock u a r = Front block (λ (k : ℕ). C.times u (get_or a k 0)) r

  -- the first n of many blocks are the multiples of a block, in order
  abbrev pub MultiplesBlock : ℕ → List ℕ → List (List ℕ) → Type 0
  MultiplesBlock n a times = (c : ℕ) → c < n → ScaledBlock c a (get_or times c [])
