-- What the functions that test a polynomial at a point promise: rows of derivatives, an entry for each order.
-- Assumes nothing.
use Rattle.std.specs.Prelude.{Bool, cond, List, [], ◌∷◌, ◌≡◌, ℕ, ◌+◌, ◌-◌, ◌*◌, ◌≤◌, ◌<◌, eqb, length, get_or}
use Rattle.algebra.specs.Dot.{dot}
use Rattle.algebra.specs.Grid.{entry_of}
use Rattle.blocks.specs.Row.{Front, Changed}
use Rattle.definitions.specs.Bound.{count}
use Rattle.definitions.specs.Code.{Symbols}
use Rattle.definitions.specs.Field.{Code, numbers}
use Rattle.definitions.specs.Limits.{greatest_level, greatest_count}
use Rattle.definitions.specs.Polynomial.{derivative}
use Rattle.definitions.specs.Tools.{every}
use Rattle.monomials.specs.Walk.{walked}

-- none of the first n entries is above the greatest level, so that there is an order for each
abbrev pub Low : ℕ → List ℕ → Type 0
Low n entries = (j : ℕ) → j < n → get_or entries j 0 ≤ greatest_level

module _ (C : Code) where
  abbrev pub SymbolRows : List (List ℕ) → Type 0
  SymbolRows rows = (e : ℕ) → Symbols C (get_or rows e [])

  -- from the derivatives of a power at c to those of the next: c times each, and the one of the order before
  abbrev pub moved_at : ℕ → List ℕ → ℕ → ℕ
  moved_at c row s = C.plus (C.times c (get_or row s 0)) (get_or (0 ∷ row) s 0)

  pub record Moved (c : ℕ) (row next : List ℕ) : Type 0 where
    pub size : length next ≡ greatest_level
    pub each : Front greatest_level (moved_at c row) next

  -- row e holds the Hasse derivatives of the power e at c, by order
  pub record Powers (c count : ℕ) (rows : List (List ℕ)) : Type 0 where
    pub symbols : SymbolRows rows
    pub each : (e s : ℕ) → e < count → s < greatest_level → entry_of rows e s ≡ derivative (numbers C) e s c

  -- c times the entries of a row are added to those of another
  abbrev pub Added : ℕ → List ℕ → List ℕ → List ℕ → Type 0
  Added c of row after = Changed 0 greatest_level (λ (s : ℕ). C.plus (get_or row s 0) (C.times (get_or of s 0) c)) row after

  -- what the first n coefficients give to y^b: each times the entry of its power of x, where its power of y is b
  abbrev pub part_of : ℕ → List (List ℕ) → List ℕ → ℕ → ℕ → ℕ → ℕ
  part_of v px q n b s =
      dot (numbers C) n (λ (k : ℕ). cond (eqb (walked v k).1 b) (entry_of px (walked v k).0 s) 0) (λ (k : ℕ). get_or q k 0)

  pub record Parts (v n : ℕ) (px : List (List ℕ)) (q : List ℕ) (rows : List (List ℕ)) : Type 0 where
    pub symbols : SymbolRows rows
    pub each : (b s : ℕ) → b < greatest_count → s < greatest_level → entry_of rows b s ≡ part_of v px q n b s

  -- the first h rows of one, times those of another, summed
  abbrev pub derivative_sum : List (List ℕ) → List (List ℕ) → ℕ → ℕ → ℕ → ℕ
  derivative_sum rows py h s t = dot (numbers C) h (λ (b : ℕ). entry_of rows b s) (λ (b : ℕ). entry_of py b t)

  abbrev pub order_passes : List (List ℕ) → List (List ℕ) → ℕ → ℕ → ℕ → Bool
  order_passes rows py h s orders = every orders (λ (t : ℕ). eqb (derivative_sum rows py h s t) 0)

  -- the derivative of order t by y at y, of the derivative of order s by x that the rows hold
  abbrev pub derivative_at : List (List ℕ) → ℕ → ℕ → ℕ → ℕ → ℕ
  derivative_at rows h y s t = dot (numbers C) h (λ (b : ℕ). entry_of rows b s) (λ (b : ℕ). derivative (numbers C) b t y)

  abbrev pub point_passes : List (List ℕ) → ℕ → ℕ → ℕ → Bool
  point_passes rows h y m = every m (λ (s : ℕ). every (m - s) (λ (t : ℕ). eqb (derivative_at rows h y s t) 0))

  abbrev pub column_passes : List (List ℕ) → ℕ → List ℕ → ℕ → Bool
  column_passes rows h entries at = every C.symbols (λ (b : ℕ). point_passes rows h b (get_or entries (at + b) 0))

  -- a matrix and a polynomial within limits
  pub record Given (n v D : ℕ) (entries q : List ℕ) : Type 0 where
    pub small : n ≤ C.positions
    pub positive : 0 < v
    pub few : count v D ≤ greatest_count
    pub full : length q ≡ count v D
    pub coefficients : Symbols C q
    pub whole : C.symbols * n ≤ length entries
    pub low : Low (C.symbols * n) entries
