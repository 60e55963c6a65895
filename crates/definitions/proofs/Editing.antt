-- The edits of a matrix record: the lowest place of an entry above 5, and what their lines say.
-- Assumes nothing.
use mathlib.Core.Bool.{true, false}
use mathlib.Core.List.{List, [], ◌∷◌}
use mathlib.Core.Path.{◌≡◌, refl, sym, ◌∙◌, ap}
use Prim.Native.Nat.{ℕ, ◌+◌, ◌≤◌, ◌<◌}
use native.Mathlib.Decide.{dec_lt, ℕ_discrete}
use native.Mathlib.Nat.{mul-suc, mul-le-mul_left}
use native.Mathlib.Omega.{arith}
use borrow.Author.Tests.{ltb-false, leb-false, eqb-true, not-false, lt-ltb, le-ltb}
use lib.Dec.{eqb, ltb}
use lib.ListN.{length, get_or, set, get_or-eq_default}
use lib.Seq.{get_or-set_same, get_or-set_other}
use Rattle.definitions.proofs.Held.{Rightly, rightly_means, cleared_below}
use Rattle.definitions.proofs.Refusals.{first_within, first_above_lem, before_above}
use Rattle.definitions.proofs.Tools.{neither, split, length_map_below, map_below_at, smallest_is, smallest_fails}
use Rattle.definitions.specs.Editing.{any_above, position, same_size, symbol, stored, lowest_above, in_or_out}
use Rattle.definitions.specs.Field.{Code}
use Rattle.definitions.specs.Held.{Held, places, without_column, with_added, rightly}
use Rattle.definitions.specs.Limits.{greatest_level}
use Rattle.definitions.specs.Refusals.{first_above}

-- ---- the lowest place

module _ (j : ℕ) where
  pub none_yet : any_above [] j ≡ false
  none_yet = refl

  pub low_too : (e : List ℕ) (es : List (List ℕ)) → get_or e j 0 ≤ greatest_level → any_above es j ≡ false → any_above (e ∷ es) j ≡ false
  low_too e es h n = rw (le-ltb greatest_level (get_or e j 0) h) n

  pub above_here : (e : List ℕ) (es : List (List ℕ)) → greatest_level < get_or e j 0 → any_above (e ∷ es) j ≡ true
  above_here e es h = rw (lt-ltb greatest_level (get_or e j 0) h)

  pub above_later : (e : List ℕ) (es : List (List ℕ)) → any_above es j ≡ true → any_above (e ∷ es) j ≡ true
  above_later e es h = split (ltb greatest_level (get_or e j 0)) (λ y. rw y) (λ n. rw n h)

  low_first : (e : List ℕ) (es : List (List ℕ)) → any_above (e ∷ es) j ≡ false → (get_or e j 0 ≤ greatest_level) × (any_above es j ≡ false)
  low_first e es n =
      let b = neither (ltb greatest_level (get_or e j 0)) (any_above es j) n in
      (ltb-false greatest_level (get_or e j 0) b.0, b.1)

-- an entry of the sum
pub added_at : (d e : List ℕ) (j : ℕ) → j < length d → get_or (with_added d e) j 0 ≡ get_or d j 0 + get_or e j 0
added_at d e j h = map_below_at (λ (j : ℕ). get_or d j 0 + get_or e j 0) (length d) j 0 h

pub length_added : (d e : List ℕ) → length (with_added d e) ≡ length d
length_added d e = length_map_below (λ (j : ℕ). get_or d j 0 + get_or e j 0) (length d)

module _ (C : Code) (e : List ℕ) (full : length e ≡ places C) where
  -- what comes out has no entry above 5 before the first of what goes in: that is the lowest
  lowest_is_first : (d : List ℕ) → ((j : ℕ) → j < first_above greatest_level e → get_or d j 0 ≤ greatest_level)
      → first_above greatest_level e ≡ lowest_above C (e ∷ d ∷ [])
  lowest_is_first d low =
      let first = first_above greatest_level e in
      let w = first_within greatest_level e in
      sym
      (smallest_is (any_above (e ∷ d ∷ [])) (places C) first (omega arith)
      (λ j h. low_too j e (d ∷ []) (before_above greatest_level e j h) (low_too j d [] (low j h) (none_yet j)))
      (λ h. above_here first e (d ∷ []) (first_above_lem greatest_level e (omega arith))))

  module _ (at x : ℕ) (h : at < length e) where
    set_low : (j : ℕ) → (j ≡ at → x ≤ greatest_level) → get_or e j 0 ≤ greatest_level → get_or (set e at x) j 0 ≤ greatest_level
    set_low j new old =
        elim (ℕ_discrete j at) [
          | yes s ↦
              let low = new s in
              let here = ap (λ (k : ℕ). get_or (set e at x) k 0) s ∙ get_or-set_same e at x 0 h in
              omega arith
          | no n ↦ (let there = get_or-set_other e at j x 0 n in omega arith)
        ]

    -- of an entry that is set: the old entries alone count, or the new one lies before them
    pub lowest_old : (at < first_above greatest_level e → x ≤ greatest_level) → first_above greatest_level e ≡ lowest_above C (e ∷ set e at x ∷ [])
    lowest_old new = lowest_is_first (set e at x) (λ j l. set_low j (λ s. new (omega arith)) (before_above greatest_level e j l))

    pub lowest_new : greatest_level < x → at < first_above greatest_level e → at ≡ lowest_above C (e ∷ set e at x ∷ [])
    lowest_new bad l =
        let here = get_or-set_same e at x 0 h in
        sym
        (smallest_is (any_above (e ∷ set e at x ∷ [])) (places C) at (omega arith)
        (λ j k.
        low_too j e (set e at x ∷ []) (before_above greatest_level e j (omega arith))
        (low_too j (set e at x) [] (set_low j (λ s. let z : ⊥ = omega arith in absurd z) (before_above greatest_level e j (omega arith))) (none_yet j)))
        (λ _. above_later at e (set e at x ∷ []) (above_here at (set e at x) [] (omega arith))))

  -- of a column that is cleared: the old entries alone count
  pub lowest_cleared : (i : ℕ) → i < C.positions → first_above greatest_level e ≡ lowest_above C (e ∷ without_column C e i ∷ [])
  lowest_cleared i hi =
      let w = mul-le-mul_left C.symbols hi in
      let s = mul-suc C.symbols i in
      lowest_is_first (without_column C e i)
      (λ j h. let below = cleared_below C e i (omega arith) j in let low = before_above greatest_level e j h in omega arith)

  -- of a sum: it is above wherever one of both is
  pub sum_passed : (d : List ℕ) (i : ℕ) → i < length e → get_or e i 0 + get_or d i 0 ≤ greatest_level → any_above (e ∷ d ∷ with_added e d ∷ []) i ≡ false
  sum_passed d i h low =
      let here = added_at e d i h in
      low_too i e (d ∷ with_added e d ∷ []) (omega arith) (low_too i d (with_added e d ∷ []) (omega arith) (low_too i (with_added e d) [] (omega arith) (none_yet i)))

  module _ (d : List ℕ) (i : ℕ) (passed : (j : ℕ) → j < i → any_above (e ∷ d ∷ with_added e d ∷ []) j ≡ false) where
    pub sum_found : i < length e → greatest_level < get_or e i 0 + get_or d i 0 → i ≡ lowest_above C (e ∷ d ∷ with_added e d ∷ [])
    sum_found h bad =
        let here = added_at e d i h in
        sym
        (smallest_is (any_above (e ∷ d ∷ with_added e d ∷ [])) (places C) i (omega arith) passed
        (λ _. above_later i e (d ∷ with_added e d ∷ []) (above_later i d (with_added e d ∷ []) (above_here i (with_added e d) [] (omega arith)))))

    pub none_found : length e ≤ i → places C ≡ lowest_above C (e ∷ d ∷ with_added e d ∷ [])
    none_found h =
        sym
        (smallest_is (any_above (e ∷ d ∷ with_added e d ∷ [])) (places C) (places C) (omega arith) (λ j l. passed j (omega arith))
        (λ l. let z : ⊥ = omega arith in absurd z))

-- ---- what a line says of a call that passes it

pub position_means : (n i : ℕ) → (position n i).given ≡ false → i < n
position_means n i e = leb-false n i e

pub same_size_means : (n o : ℕ) → (same_size n o).given ≡ false → n ≡ o
same_size_means n o e = eqb-true n o (not-false (eqb n o) e)

module _ (C : Code) where
  pub symbol_means : (b : ℕ) → (symbol C b).given ≡ false → b < C.symbols
  symbol_means b e = leb-false C.symbols b e

  pub stored_means : (h : Held) → (stored C h).given ≡ false → Rightly C h
  stored_means h e = rightly_means C h (not-false (rightly C h) e)

  -- no entry of any of the matrices is above 5
  pub in_or_out_means : (es : List (List ℕ)) → (in_or_out C es).given ≡ false → (j : ℕ) → j < places C → any_above es j ≡ false
  in_or_out_means es e j h =
      let past = ltb-false (lowest_above C es) (places C) e in
      smallest_fails (any_above es) (places C) j (omega arith)

  -- so none of each of them
  out_low : (es : List (List ℕ)) (e : List ℕ) → length e ≡ places C → (in_or_out C es).given ≡ false
      → ((j : ℕ) → any_above es j ≡ false → get_or e j 0 ≤ greatest_level) → (j : ℕ) → get_or e j 0 ≤ greatest_level
  out_low es e full given of j =
      elim (dec_lt j (places C)) [
        | yes l ↦ of j (in_or_out_means es given j l)
        | no n ↦ (let z = get_or-eq_default e 0 {n = j} (omega arith) in omega arith)
      ]

  pub in_low : (e : List ℕ) (es : List (List ℕ)) → length e ≡ places C → (in_or_out C (e ∷ es)).given ≡ false → (j : ℕ) → get_or e j 0 ≤ greatest_level
  in_low e es full given = out_low (e ∷ es) e full given (λ j n. (low_first j e es n).0)

  pub out_of_two : (d e : List ℕ) → length e ≡ places C → (in_or_out C (d ∷ e ∷ [])).given ≡ false → (j : ℕ) → get_or e j 0 ≤ greatest_level
  out_of_two d e full given = out_low (d ∷ e ∷ []) e full given (λ j n. (low_first j e [] (low_first j d (e ∷ []) n).1).0)

  pub out_of_three : (c d e : List ℕ) → length e ≡ places C → (in_or_out C (c ∷ d ∷ e ∷ [])).given ≡ false → (j : ℕ) → get_or e j 0 ≤ greatest_level
  out_of_three c d e full given =
      out_low (c ∷ d ∷ e ∷ []) e full given (λ j n. (low_first j e [] (low_first j d (e ∷ []) (low_first j c (d ∷ e ∷ []) n).1).1).0)
