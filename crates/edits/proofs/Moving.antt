-- How the stored numbers of a record that is rightly held move when an entry is set or a column cleared.
-- Assumes nothing.
use mathlib.Core.Bool.{false}
use mathlib.Core.List.{List, [], ◌∷◌, ◌++◌}
use mathlib.Core.Path.{◌≡◌, sym, ◌∙◌, ap, subst}
use Prim.Native.Nat.{ℕ, ◌+◌, ◌*◌, ◌≤◌, ◌<◌}
use native.Mathlib.Nat.{mul-suc, mul-le-mul_left}
use native.Mathlib.Omega.{arith}
use lib.ListN.{length, get_or, set, take, drop, replicate, length-replicate}
use Rattle.definitions.proofs.Editing.{in_low}
use Rattle.definitions.proofs.Held.{Rightly, place_within, total_at, column_small, column_set, totals_set, cost_set, cost_cleared, cost_of_column, totals_cleared}
use Rattle.definitions.specs.Editing.{lowest_above, in_or_out}
use Rattle.definitions.specs.Field.{Code}
use Rattle.definitions.specs.Held.{Held, places, held_of, with_entry, without_column}
use Rattle.definitions.specs.Limits.{greatest_level}
use Rattle.definitions.specs.Weights.{entry, sum_of_column, entry_cost, cost}
use Rattle.definitions.specs.Answers.{costed}
use Rattle.matrix.proofs.Columns.{cost_small}
use Rattle.edits.proofs.Edits.{none_above_done}
use Rattle.edits.specs.Edits.{Edits}
use Rattle.memory.specs.Laid.{laid}
use Rattle.refusals.specs.Found.{Found}
use Rattle.std.proofs.Common.{None}

module _ (C : Code) (h : Held) (r : Rightly C h) where
  total_stored : (i : ℕ) → i < C.positions → get_or h.totals i 0 ≡ sum_of_column C h.entries i
  total_stored i hi = ap (λ (t : List ℕ). get_or t i 0) r.totals_are ∙ total_at C h.entries i hi

  -- what is stored of a matrix without an entry above 5
  module _ (es : List (List ℕ)) (given : (in_or_out C (h.entries ∷ es)).given ≡ false) where
    low : (j : ℕ) → get_or h.entries j 0 ≤ greatest_level
    low = in_low C h.entries es r.full given

    pub cost_limited : h.cost ≤ places C * entry_cost greatest_level
    cost_limited =
        subst (λ (c : ℕ). c ≤ places C * entry_cost greatest_level) (sym r.cost_is) (cost_small C h.entries (let s = r.full in omega arith) low)

    pub total_limited : (i : ℕ) → i < C.positions → get_or h.totals i 0 ≤ C.symbols * greatest_level
    total_limited i hi = subst (λ (t : ℕ). t ≤ C.symbols * greatest_level) (sym (total_stored i hi)) (column_small C h.entries greatest_level low i)

  module _ (i : ℕ) (hi : i < C.positions) where
    -- an entry is set
    module _ (b x : ℕ) (hb : b < C.symbols) where
      pub at_within : C.symbols * i + b < length h.entries
      at_within = let w = place_within C i b hi hb in let f = r.full in omega arith

      -- the new total with the old entry, and the new cost with the old entry's: so neither subtraction falls below zero
      pub total_moves : sum_of_column C (with_entry C h.entries i b x) i + entry C h.entries i b ≡ get_or h.totals i 0 + x
      total_moves = column_set C h.entries i b x hb at_within ∙ ap (λ (t : ℕ). t + x) (sym (total_stored i hi))

      pub cost_moves : cost (with_entry C h.entries i b x) + entry_cost (entry C h.entries i b) ≡ h.cost + entry_cost x
      cost_moves = cost_set h.entries (C.symbols * i + b) x at_within ∙ ap (λ (c : ℕ). c + entry_cost x) (sym r.cost_is)

      pub set_done : Found (lowest_above C (h.entries ∷ with_entry C h.entries i b x ∷ [])) (places C) None → (t c : ℕ)
          → t + entry C h.entries i b ≡ get_or h.totals i 0 + x → c + entry_cost (entry C h.entries i b) ≡ h.cost + entry_cost x
          → (after : List ℕ) → after ≡ with_entry C h.entries i b x
          → Edits (in_or_out C (h.entries ∷ with_entry C h.entries i b x ∷ []) ∷ []) h (held_of C h.n (with_entry C h.entries i b x)) (costed c 0)
          (set h.totals i t) after
      set_done none t c et ec after ea =
          none_above_done C (h.entries ∷ with_entry C h.entries i b x ∷ []) h (held_of C h.n (with_entry C h.entries i b x)) none c
          (set h.totals i t) after (let moved = cost_moves in omega arith)
          (ap (λ (l : List ℕ). set l i t) r.totals_are
          ∙ totals_set C h.entries i b x hb at_within t hi (let s = total_at C h.entries i hi in let k = total_stored i hi in omega arith))
          ea

    -- the column is cleared
    pub column_within : C.symbols * i + C.symbols ≤ length h.entries
    column_within =
        let w = mul-le-mul_left C.symbols hi in
        let m = mul-suc C.symbols i in
        let f = r.full in
        omega arith

    pub without_column_lem : (p : ℕ) → p ≡ cost (take C.symbols (drop (C.symbols * i) h.entries)) → cost (without_column C h.entries i) + p ≡ h.cost
    without_column_lem p e =
        let column = cost_of_column C h.entries i column_within in
        let moved = cost_cleared C h.entries i column_within hi r.full in
        let stored = r.cost_is in
        omega arith

    pub clear_done : Found (lowest_above C (h.entries ∷ without_column C h.entries i ∷ [])) (places C) None → (p c : ℕ)
        → p ≡ cost (take C.symbols (drop (C.symbols * i) h.entries)) → c + p ≡ h.cost → (after : List ℕ) → after ≡ without_column C h.entries i
        → Edits (in_or_out C (h.entries ∷ without_column C h.entries i ∷ []) ∷ []) h (held_of C h.n (without_column C h.entries i)) (costed c 0)
        (set h.totals i 0) after
    clear_done none p c ep ec after ea =
        none_above_done C (h.entries ∷ without_column C h.entries i ∷ []) h (held_of C h.n (without_column C h.entries i)) none c
        (set h.totals i 0) after (let moved = without_column_lem p ep in omega arith)
        (ap (λ (l : List ℕ). set l i 0) r.totals_are ∙ totals_cleared C h.entries i column_within hi) ea

-- zeros laid over a column
pub laid_cleared : (C : Code) (e : List ℕ) (i : ℕ) → laid e (C.symbols * i) (replicate C.symbols 0) ≡ without_column C e i
unfolding laid
laid_cleared C e i =
    ap (λ (n : ℕ). take (C.symbols * i) e ++ replicate C.symbols 0 ++ drop (C.symbols * i + n) e) (length-replicate {A = ℕ} C.symbols 0)
