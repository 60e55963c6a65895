-- What the inner functions are given, and what they leave: the polynomial that interpolates, and the place of its leading monomial.
-- Assumes nothing.
use Rattle.std.specs.Prelude.{List, ◌++◌, ◌≡◌, ℕ, ◌*◌, ◌≤◌, ◌<◌, length, drop}
use Rattle.blocks.specs.Row.{block}
use Rattle.definitions.specs.Bound.{bound, count}
use Rattle.definitions.specs.Field.{Code}
use Rattle.definitions.specs.Limits.{greatest_limit}
use Rattle.definitions.specs.Polynomial.{Interpolates, leading}
use Rattle.matrix.specs.Columns.{matrix_of, matrix_cost}

-- the rows of the middle and of the upper one of four systems: no tag costs more up to level 3, and up to level 4
abbrev pub middle_rows : ℕ
middle_rows = 6 * block

abbrev pub upper_rows : ℕ
upper_rows = 10 * block

-- a matrix within limits, its cost, its bound and how many coefficients that has, for which there is room
pub record Given (C : Code) (a : List (List ℕ)) (v D w cost : ℕ) (out : List ℕ) : Type 0 where
  pub weighted : 0 < v
  pub cheap : cost ≤ greatest_limit
  pub priced : cost ≡ matrix_cost C a
  pub bounded : D ≡ bound v (matrix_cost C a)
  pub counted : w ≡ count v D
  pub room : w ≤ length out

pub record Found (C : Code) (a : List (List ℕ)) (v D : ℕ) (before : List ℕ) (place : ℕ) (after : List ℕ) : Type 0 where
  pub coefficients : List ℕ
  -- they interpolate the bytes that the matrix was loaded from
  pub interpolates : (m : List ℕ) (n : ℕ) → n ≤ C.positions → length m ≡ C.symbols * n → a ≡ matrix_of C m n → Interpolates C n v D m coefficients
  pub size : length coefficients ≡ count v D
  pub leads : place ≡ leading coefficients
  pub written : after ≡ coefficients ++ drop (length coefficients) before

-- at the bound of a cost, which has so many coefficients
pub record FoundAtBound (C : Code) (a : List (List ℕ)) (v cost : ℕ) (before : List ℕ) (D w place : ℕ) (after : List ℕ) : Type 0 where
  pub bounded : D ≡ bound v cost
  pub counted : w ≡ count v D
  pub found : Found C a v D before place after
