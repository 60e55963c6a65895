-- The lowest place of an entry above 5 before or after an edit is where a search of the edit's own entries finds it.
-- Assumes nothing.
use Rattle.std.proofs.Common.{◌≡◌, ℕ, ◌+◌, ◌≤◌, ◌<◌, List, [], ◌∷◌, Option, Some, None, length, get_or, set, min, sym, arith, subst}
use native.Mathlib.Decide.{dec_lt}
use Rattle.definitions.proofs.Editing.{lowest_old, lowest_new, lowest_cleared, sum_passed, sum_found, none_found}
use Rattle.definitions.specs.Editing.{lowest_above}
use Rattle.definitions.specs.Field.{Code}
use Rattle.definitions.specs.Held.{places, without_column, with_added}
use Rattle.definitions.specs.Limits.{greatest_level}
use Rattle.definitions.specs.Refusals.{first_above}
use Rattle.edits.specs.Edits.{Lowest}
use Rattle.refusals.specs.Found.{Found}

-- where the lowest place is the first of the old entries, as many as there are places
found_first : (C : Code) (e : List ℕ) (full : length e ≡ places C) (es : List (List ℕ)) (r : Option ℕ) → first_above greatest_level e ≡ lowest_above C es
    → Found (first_above greatest_level e) (length e) r → Found (lowest_above C es) (places C) r
found_first C e full es r is f = subst (λ (n : ℕ). Found n (places C) r) is (subst (λ (m : ℕ). Found (first_above greatest_level e) m r) full f)

-- an entry that is set changes nothing where it is not above 5, or where an old one stands no later
pub found_old : (e : List ℕ) (at x : ℕ) → at < length e → (at < first_above greatest_level e → x ≤ greatest_level) → (r : Option ℕ)
    → Found (first_above greatest_level e) (length e) r → Lowest e (set e at x ∷ []) r
found_old e at x h new r f C full = found_first C e full (e ∷ set e at x ∷ []) r (lowest_old C e full at x h new) f

-- one that is above 5 is the lowest where it stands before all old ones that are
pub found_new : (e : List ℕ) (at x : ℕ) → at < length e → greatest_level < x → at < first_above greatest_level e → Lowest e (set e at x ∷ []) (Some at)
found_new e at x h bad l C full = let is = lowest_new C e full at x h bad l in (is, omega arith)

pub found_least : (e : List ℕ) (at x bad n : ℕ) → at < length e → greatest_level < x → Found (first_above greatest_level e) (length e) (Some bad) → n ≡ min bad at
    → Lowest e (set e at x ∷ []) (Some n)
found_least e at x bad n h new f m =
    elim (dec_lt at bad) [
      | yes l ↦ (let here : at ≡ n = omega arith in subst (λ (t : ℕ). Lowest e (set e at x ∷ []) (Some t)) here (found_new e at x h new (let is = f.0 in omega arith)))
      | no g ↦ (let here : n ≡ bad = omega arith in found_old e at x h (λ l. let is = f.0 in let z : ⊥ = omega arith in absurd z) (Some n)
          (subst (λ (t : ℕ). Found (first_above greatest_level e) (length e) (Some t)) (sym here) f))
    ]

-- of a column that is cleared the old entries alone count
pub found_cleared : (C : Code) (e : List ℕ) → length e ≡ places C → (i : ℕ) → i < C.positions → (r : Option ℕ) → Found (first_above greatest_level e) (length e) r
    → Found (lowest_above C (e ∷ without_column C e i ∷ [])) (places C) r
found_cleared C e full i hi r f = found_first C e full (e ∷ without_column C e i ∷ []) r (lowest_cleared C e full i hi) f

-- a sum that is not above 5 has no summand above 5 either, so sums alone count
pub found_sum : (e d : List ℕ) (j : ℕ) → j < length e → ((t : ℕ) → t < j → get_or e t 0 + get_or d t 0 ≤ greatest_level)
    → greatest_level < get_or e j 0 + get_or d j 0 → Lowest e (d ∷ with_added e d ∷ []) (Some j)
found_sum e d j h low bad C full =
    let is = sum_found C e full d j (λ t l. sum_passed C e full d t (omega arith) (low t l)) h bad in
    (is, omega arith)

pub none_sum : (e d : List ℕ) → ((t : ℕ) → t < length e → get_or e t 0 + get_or d t 0 ≤ greatest_level) → Lowest e (d ∷ with_added e d ∷ []) None
none_sum e d low C full =
    let is = none_found C e full d (length e) (λ t l. sum_passed C e full d t l (low t l)) (omega arith) in
    omega arith
