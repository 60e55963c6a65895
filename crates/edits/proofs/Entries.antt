-- Entries that are written in place: the sum of two matrices.
-- Assumes nothing.
use mathlib.Core.Bool.{false}
use mathlib.Core.List.{List, [], ◌∷◌, ◌++◌, map}
use mathlib.Core.Path.{◌≡◌, ◌∙◌, ap}
use Prim.Native.Nat.{ℕ, ◌+◌}
use native.Mathlib.Omega.{arith}
use lib.ListN.{length, drop, get_or}
use lib.Seq.{get_or-append-add, get_or-drop}
use Rattle.definitions.proofs.Editing.{out_of_three, added_at, length_added}
use Rattle.definitions.proofs.Tools.{length_map_below}
use Rattle.definitions.specs.Editing.{in_or_out}
use Rattle.definitions.specs.Field.{Code}
use Rattle.definitions.specs.Held.{places, with_added}
use Rattle.definitions.specs.Tools.{below}
use Rattle.edits.specs.Edits.{LowSum}

-- what a loop has not come to yet is as it was
pub place_untouched : (f : ℕ → ℕ) (out now : List ℕ) (j : ℕ) → now ≡ map f (below j) ++ drop j out → get_or now j 0 ≡ get_or out j 0
place_untouched f out now j e =
    let size = length_map_below f j in
    let z : j + 0 ≡ j = omega arith in
    ap (λ (l : List ℕ). get_or l j 0) e
    ∙ ap (λ (t : ℕ). get_or (map f (below j) ++ drop j out) t 0) (let s : j ≡ length (map f (below j)) + 0 = omega arith in s)
    ∙ get_or-append-add (map f (below j)) (drop j out) 0 0 ∙ get_or-drop j out 0 0 ∙ ap (λ (t : ℕ). get_or out t 0) z

-- where no entry of the sum is above 5 the sum fits
pub low_sum : (C : Code) (d e : List ℕ) → length d ≡ places C → (in_or_out C (d ∷ e ∷ with_added d e ∷ [])).given ≡ false → LowSum d e
low_sum C d e full given j h =
    let low = out_of_three C d e (with_added d e) (length_added d e ∙ full) given j in
    let here = added_at d e j h in
    omega arith
