-- What the search promises: the rows below a prefix.
-- Assumes nothing.
use mathlib.Core.List.{List, ◌++◌, flat_map}
use Rattle.std.specs.Prelude.{◌≡◌, ℕ, ◌+◌}
use Rattle.alphabet.specs.Codes.{code_on}
use Rattle.alphabet.specs.declared.Alphabet.{Alphabet}
use Rattle.definitions.specs.Field.{Code, numbers}
use Rattle.root_tree.specs.Columns.{loaded}
use Rattle.root_tree.specs.Tree.{Under}
use Rattle.substitution.specs.Array.{polynomial}

-- the array's weighted degree, of weights 1 and v, is at most D
abbrev pub DegreeWithin : Code → ℕ → ℕ → ℕ → List ℕ → Type 0
DegreeWithin C v D h l = Under C v D (polynomial C h (D + 1) l)

-- r is l with the coefficients q at the places of the monomials m, whichever alphabet they are of
abbrev pub LoadedOfEither : ℕ → List ℕ → List (ℕ × ℕ) → List ℕ → List ℕ → Type 0
LoadedOfEither h q m l r = (w : Alphabet) → r ≡ loaded (numbers (code_on w)) h q m l

-- rows after a prefix, one after the other
abbrev pub rows_after : List ℕ → List (List ℕ) → List ℕ
rows_after prefix rows = flat_map (λ (f : List ℕ). prefix ++ f) rows
