-- The rows of the Hasse conditions as masked rows: the monomials' values at a point, kept for each order where the powers have its bits.
-- Assumes nothing.
use Rattle.std.specs.Prelude.{cond, ℕ, ◌+◌, ◌-◌, ◌*◌, ◌/◌, ◌≤◌, ◌<◌, eqb, length, get_or}
use mathlib.Core.List.{List, [], map, flat_map}
use Rattle.definitions.specs.Code.{point}
use Rattle.definitions.specs.Field.{Code}
use Rattle.definitions.specs.Tools.{below}
use Rattle.monomials.specs.Rows.{exponent_rows, powers_row, values_row}
use Rattle.masks.specs.Masks.{kept_row}
use Rattle.blocks.specs.Row.{block, ZeroFrom}

-- the rows from a place on are zero from a column on
abbrev pub Clear : ℕ → ℕ → List (List ℕ) → Type 0
Clear at n rows = (r : ℕ) → at ≤ r → r < length rows → ZeroFrom n (get_or rows r [])

-- of a power of y the bits of the order are asked for, and at y = 0 all bits
abbrev pub asked_at : ℕ → ℕ → ℕ
asked_at b t = cond (eqb b 0) 255 t

-- powers are taken of y, and at y = 0 of 1
abbrev pub base_at : ℕ → ℕ
base_at b = cond (eqb b 0) 1 b

-- the rows of the orders 0 to m - 1 by y
abbrev pub kept_order : ℕ → List ℕ → List ℕ → ℕ → ℕ → List (List ℕ)
kept_order blocks row ys b m = map (λ (t : ℕ). kept_row blocks row ys (asked_at b t) t) (below m)

-- the rows of the order s by x, of a point of multiplicity m
abbrev pub order_at : ℕ → List ℕ → List (List ℕ) → ℕ → ℕ → ℕ → List (List ℕ)
order_at blocks row es b m s = kept_order blocks (kept_row blocks row (get_or es 0 []) s s) (get_or es 1 []) b (m - s)

-- the rows of the orders (s, t) with s + t < m
abbrev pub kept_orders : ℕ → List ℕ → List (List ℕ) → ℕ → ℕ → List (List ℕ)
kept_orders blocks row es b m = flat_map (order_at blocks row es b m) (below m)

-- the rows of a point of multiplicity m
abbrev pub masked_point : Code → List ℕ → ℕ → ℕ → List (List ℕ) → ℕ → ℕ → List (List ℕ)
masked_point C px n blocks es b m = kept_orders blocks (values_row C (blocks * block) px (powers_row C n (base_at b)) es) es b m

-- the rows of a symbol at a position
abbrev pub point_at : Code → List ℕ → ℕ → ℕ → List (List ℕ) → List ℕ → ℕ → List (List ℕ)
point_at C px n blocks es column b = masked_point C px n blocks es b (get_or column b 0)

-- the rows of a position
abbrev pub masked_column : Code → List ℕ → ℕ → ℕ → List (List ℕ) → List ℕ → List (List ℕ)
masked_column C px n blocks es column = flat_map (point_at C px n blocks es column) (below C.symbols)

-- the rows of position i of a matrix
abbrev pub column_at : Code → ℕ → ℕ → ℕ → List (List ℕ) → ℕ → List (List ℕ)
column_at C v d blocks a i = masked_column C (powers_row C (d + 1) (point C i)) (d / v + 1) blocks (exponent_rows v (blocks * block)) (get_or a i [])

-- the rows of a matrix
abbrev pub masked_rows : Code → ℕ → ℕ → ℕ → List (List ℕ) → List (List ℕ)
masked_rows C v d blocks a = flat_map (column_at C v d blocks a) (below C.positions)
