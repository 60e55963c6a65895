-- What is known of a record whose sizes and stored numbers pass their lines.
-- Assumes nothing.
use mathlib.Core.Bool.{Bool, false, not}
use mathlib.Core.Path.{◌≡◌, sym, ◌∙◌, ap}
use Prim.Native.Nat.{ℕ}
use Rattle.definitions.proofs.Editing.{stored_means}
use Rattle.definitions.proofs.Table.{sizes_mean}
use Rattle.definitions.specs.Field.{Code}
use Rattle.definitions.specs.Held.{Held, rightly}
use Rattle.definitions.specs.Refusals.{sizes}
use Rattle.matrix.proofs.Columns.{rightly_priced}
use Rattle.matrix.specs.Columns.{FrontCosts}

-- its bytes stand in front of its entries, at the cost that is stored
pub stored_priced : (C : Code) (h : Held) (k : ℕ) {right : Bool} → right ≡ rightly C h → not right ≡ false → (sizes C h.n k).given ≡ false
    → FrontCosts C h.n h.cost h.entries
stored_priced C h k is passed sized = rightly_priced C h (stored_means C h (ap not (sym is) ∙ passed)) (sizes_mean C h.n k sized).2
