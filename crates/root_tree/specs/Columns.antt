-- Polynomials in two variables by columns: entry a of M is the polynomial in y that stands at x^a. So M(0, y) is the first column, a factor x
-- is a first column of zeros, and M(x, x y + c) is made column by column.
-- Assumes nothing.
use Rattle.std.specs.Prelude.{List, [], ◌∷◌, ℕ, zero, suc, ◌+◌, ◌*◌, get_or, take, drop, set}
use Rattle.definitions.specs.Field.{Ops}
use Rattle.definitions.specs.Roots.{plus, scaled}

module _ (A : Ops) where
  open A use {K, o}

  -- the coefficient of x^a y^b
  abbrev pub coefficient : List (List K) → ℕ → ℕ → K
  coefficient M a b = get_or (get_or M a []) b o

  -- M(0, y)
  unfoldable pub first : List (List K) → List K
  first [] = []
  first (p ∷ M) = p

  -- p(y + c), by Horner's rule
  unfoldable pub shift : K → List K → List K
  shift c [] = []
  shift c (d ∷ p) = plus A (scaled A c (shift c p)) (d ∷ shift c p)

  -- M(x, y + c)
  unfoldable pub shift_columns : K → List (List K) → List (List K)
  shift_columns c [] = []
  shift_columns c (p ∷ M) = shift c p ∷ shift_columns c M

  -- M + N
  unfoldable pub plus_columns : List (List K) → List (List K) → List (List K)
  plus_columns [] N = N
  plus_columns (p ∷ M) [] = p ∷ M
  plus_columns (p ∷ M) (q ∷ N) = plus A p q ∷ plus_columns M N

  -- y M
  unfoldable pub times_y : List (List K) → List (List K)
  times_y [] = []
  times_y (p ∷ M) = (o ∷ p) ∷ times_y M

  -- p(x y)
  unfoldable pub diagonal : List K → List (List K)
  diagonal [] = []
  diagonal (c ∷ p) = (c ∷ []) ∷ times_y (diagonal p)

  -- M(x, x y)
  unfoldable pub spread : List (List K) → List (List K)
  spread [] = []
  spread (p ∷ M) = plus_columns (diagonal p) ([] ∷ spread M)

  -- M(x, x y + c)
  unfoldable pub substitute : K → List (List K) → List (List K)
  substitute c M = spread (shift_columns c M)

  -- an array as columns: w of them, each of h entries, one after the other
  unfoldable pub columns : ℕ → ℕ → List K → List (List K)
  columns h zero l = []
  columns h (suc w) l = take h l ∷ columns h w (drop h l)

  -- each coefficient put to its place: that of x^a y^b at a h + b
  unfoldable pub loaded : ℕ → List K → List (ℕ × ℕ) → List K → List K
  loaded h [] m l = l
  loaded h (c ∷ q) [] l = l
  loaded h (c ∷ q) (m ∷ n) l = loaded h q n (set l (m.0 * h + m.1) c)
