-- The masked rows of the conditions: how many an order by x has, and that a point without multiplicity has none; powers of y are taken of a symbol.
-- Assumes nothing.
use mathlib.Core.List.{List, [], flat_map}
use mathlib.Core.Path.{◌≡◌, ◌∙◌, ap}
use Prim.Native.Nat.{ℕ, zero, suc, ◌-◌, ◌<◌}
use lib.Dec.{eqb-suc-zero}
use lib.ListN.{length, get_or}
use Rattle.algebra.proofs.Elements.{one_symbol}
use Rattle.algebra.specs.FieldOf.{FieldOf}
use Rattle.definitions.proofs.Joined.{join_nil}
use Rattle.definitions.proofs.Tools.{below_zero, length_map_below}
use Rattle.definitions.specs.Field.{Code}
use Rattle.definitions.specs.Tools.{below}
use Rattle.masks.specs.Masks.{kept_row}
use Rattle.conditions.specs.MaskedRows.{asked_at, base_at, order_at, kept_orders}

-- the rows of one order by x are as many as orders by y are left
pub length_order_at : (blocks : ℕ) (row : List ℕ) (es : List (List ℕ)) (b m s : ℕ) → length (order_at blocks row es b m s) ≡ m - s
length_order_at blocks row es b m s = length_map_below (λ (t : ℕ). kept_row blocks (kept_row blocks row (get_or es 0 []) s s) (get_or es 1 []) (asked_at b t) t) (m - s)

-- a point without multiplicity has none
pub orders_none : (blocks : ℕ) (row : List ℕ) (es : List (List ℕ)) (b m : ℕ) → m ≡ 0 → kept_orders blocks row es b m ≡ []
orders_none blocks row es b m e =
    ap (λ (n : ℕ). flat_map (order_at blocks row es b m) (below n)) e ∙ ap (flat_map (order_at blocks row es b m)) below_zero ∙ join_nil (order_at blocks row es b m)

module _ (C : Code) (F : FieldOf C) where
  -- the powers of y are taken of a symbol
  pub base_symbol : (b : ℕ) → b < C.symbols → base_at b < C.symbols
  base_symbol zero h = one_symbol C F
  base_symbol (suc b) h = rw (eqb-suc-zero b) h
