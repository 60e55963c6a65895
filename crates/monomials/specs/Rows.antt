-- The rows of the first monomials: their powers, and their values at a point.
-- Assumes nothing.
use Rattle.std.specs.Prelude.{List, [], ◌∷◌, ℕ, ◌<◌, get_or}
use Rattle.algebra.specs.Grid.{entry_of}
use Rattle.definitions.specs.Field.{Code, numbers, power}
use Rattle.monomials.specs.Walk.{walked}
use Rattle.blocks.specs.Row.{width, filled}

-- the powers of x that the first monomials have, and those of y
abbrev pub exponent_rows : ℕ → ℕ → List (List ℕ)
exponent_rows v count = filled count (λ (k : ℕ). (walked v k).0) ∷ filled count (λ (k : ℕ). (walked v k).1) ∷ []

-- each is the place of an entry of a row
abbrev pub Places : List (List ℕ) → Type 0
Places es = (i k : ℕ) → entry_of es i k < width

-- the first n powers of x
abbrev pub powers_row : Code → ℕ → ℕ → List ℕ
powers_row C n x = filled n (λ (e : ℕ). power (numbers C) x e)

-- the monomials' values, of the powers of x and of y
abbrev pub values_row : Code → ℕ → List ℕ → List ℕ → List (List ℕ) → List ℕ
values_row C count px py es = filled count (λ (k : ℕ). C.times (get_or px (entry_of es 0 k) 0) (get_or py (entry_of es 1 k) 0))
