-- What is moved to or from the rest of some memory lies in the memory.
-- Assumes nothing.
use mathlib.Core.List.{List}
use mathlib.Core.Path.{◌≡◌, subst}
use Prim.Native.Nat.{ℕ, ◌+◌, ◌-◌, ◌≤◌}
use lib.ListN.{length}
use native.Mathlib.Nat.{le_refl}
use native.Mathlib.Omega.{arith}
use borrow.Rule.Slice.PartMut.{mid_of, mid_len}
use Rattle.std.specs.Prelude.{Result, Ok}
use Rattle.streams.specs.Moved.{Within}

-- part is what now lies from done on
pub moved_within :
    {E : Type 0} (done more : ℕ) (buf part : List ℕ) (r : Result ℕ E) → done ≤ length buf
    → length part ≡ length (mid_of done (length buf - done) buf) → r ≡ Ok more → Within r part → done + more ≤ length buf
moved_within {E} done more buf part r within same is moved =
    let rest : length (mid_of done (length buf - done) buf) ≡ length buf - done = mid_len done (length buf) buf (le_refl (length buf)) in
    let counted = (subst (λ (w : Result ℕ E). Within w part) is moved).0 in
    omega arith
