-- What the line of a list says of one that passes it.
-- Assumes nothing.
use mathlib.Core.Bool.{false, ◌&&◌}
use mathlib.Core.List.{List}
use mathlib.Core.Path.{◌≡◌}
use Prim.Native.Nat.{ℕ, ◌*◌}
use borrow.Author.Tests.{eqb-true, not-false}
use lib.Dec.{eqb}
use lib.ListN.{length}
use Rattle.definitions.proofs.Tools.{both}
use Rattle.definitions.specs.Tools.{every}
use Rattle.rows.specs.Rows.{in_order, is_new, is_list, list_line}

-- it has k symbols a score
pub list_line_means : (k : ℕ) (rows scores : List ℕ) → (list_line k rows scores).given ≡ false → length rows ≡ k * length scores
list_line_means k rows scores e =
    eqb-true (length rows) (k * length scores)
    (both (eqb (length rows) (k * length scores)) (in_order k rows scores && every (length scores) (is_new k rows)) (not-false (is_list k rows scores) e)).0
