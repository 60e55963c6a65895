-- What the search for a pivot has seen of a column, and what back substitution is given of the entries that are found already.
-- Assumes nothing.
use Rattle.std.specs.Prelude.{List, ◌≡◌, ℕ, ◌≤◌, ◌<◌, get_or}
use Rattle.algebra.specs.Grid.{entry_of}
use Rattle.definitions.specs.Field.{Code}

-- rows j to r - 1 have 0 in column j, so that none of them is its pivot row
abbrev pub NoPivot : ℕ → ℕ → List (List ℕ) → Type 0
NoPivot j r m = (t : ℕ) → j ≤ t → t < r → entry_of m t j ≡ 0

-- the entries behind s and before j are symbols
abbrev pub SymbolsBetween : Code → ℕ → ℕ → List ℕ → Type 0
SymbolsBetween C s j q = (k : ℕ) → s < k → k < j → get_or q k 0 < C.symbols
