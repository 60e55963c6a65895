-- What the check of a plan compares, and the room for it.
-- Assumes nothing.
use mathlib.Core.Bool.{Bool}
use mathlib.Core.List.{List, ◌++◌}
use mathlib.Core.Path.{◌≡◌, sym, ◌∙◌, ap, ap₂}
use Prim.Native.Nat.{ℕ, ◌*◌, ◌≤◌}
use native.Mathlib.Nat.{mul-le-mul_left}
use native.Mathlib.Omega.{arith}
use lib.Dec.{eqb}
use lib.ListN.{length, get_or, take, get_or-append}
use lib.Seq.{get_or-take}
use Rattle.alphabet.specs.Codes.{code_on, most_places}
use Rattle.alphabet.specs.declared.Alphabet.{Alphabet}
use Rattle.definitions.proofs.Every.{every_same}
use Rattle.definitions.specs.Field.{Code}
use Rattle.definitions.specs.Held.{places}
use Rattle.definitions.specs.Planning.{plan, is_plan}
use Rattle.matrix.proofs.Columns.{places_within}
use Rattle.memory.specs.Same.{same_up_to}
use Rattle.plans.proofs.Planning.{length_plan}
use Rattle.steps.specs.Entries.{Weights}

-- what was compared with the rule's result, and rests behind it, is the plan's line
pub is_right : (C : Code) (n s : ℕ) (r : List ℕ) → length r ≡ C.symbols * n → (e rule rest : List ℕ) → rule ≡ plan r s → (same : Bool)
    → same ≡ same_up_to (length r) e (rule ++ rest) → same ≡ is_plan r s (take (C.symbols * n) e)
is_right C n s r full e rule rest is_rule same says =
    says
    ∙ every_same (λ j. eqb (get_or e j 0) (get_or (rule ++ rest) j 0)) (λ j. eqb (get_or (take (C.symbols * n) e) j 0) (get_or (plan r s) j 0)) (length r)
    (λ j h.
    ap₂ eqb (sym (get_or-take (C.symbols * n) e j 0 (rw full at h)))
    (get_or-append rule rest 0 j (rw (is_rule, length_plan r s) h) ∙ ap (λ (l : List ℕ). get_or l j 0) is_rule))

-- reliabilities have room in the greatest matrix
pub weights_within : (w : Alphabet) (n : ℕ) (r : List ℕ) → Weights (code_on w) n r → length r ≤ most_places
weights_within w n r h =
    let most = places_within w in
    let full = h.full in
    let used : (code_on w).symbols * n ≤ places (code_on w) = mul-le-mul_left (code_on w).symbols h.small in
    omega arith
