-- What each edit of a record that is rightly held needs and makes, over the numbers and lists that its function has: q is the number of symbols.
-- Assumes nothing.
use Rattle.std.proofs.Common.{◌≡◌, ℕ, ◌+◌, ◌-◌, ◌*◌, ◌≤◌, ◌<◌, List, [], ◌∷◌, Option, Some, None, true, length, get_or, set, take, drop, replicate, sym, ◌∙◌, ap, arith, subst}
use Rattle.alphabet.proofs.Sizes.{sized}
use Rattle.alphabet.specs.Codes.{code_on}
use Rattle.alphabet.specs.declared.Alphabet.{Alphabet}
use Rattle.definitions.proofs.Held.{Rightly, rightly_means}
use Rattle.definitions.specs.Answers.{refused, costed}
use Rattle.definitions.specs.Editing.{lowest_above, in_or_out}
use Rattle.definitions.specs.Field.{Code}
use Rattle.definitions.specs.Held.{Held, held, held_of, places, totals_of, with_entry, without_column, with_added, rightly}
use Rattle.definitions.specs.Refusals.{first_above}
use Rattle.definitions.specs.Limits.{greatest_level}
use Rattle.definitions.specs.Weights.{sum_of_column, entry_cost, cost}
use Rattle.edits.proofs.Edits.{above_refused, not_given, none_above_done}
use Rattle.edits.proofs.Entries.{low_sum}
use Rattle.edits.proofs.Lowest.{found_cleared}
use Rattle.edits.proofs.Moving.{cost_limited, total_limited, total_moves, cost_moves, set_done, without_column_lem, clear_done, laid_cleared}
use Rattle.edits.specs.Edits.{Edits, Lowest, LowSum}
use Rattle.matrix.proofs.Columns.{places_within}
use Rattle.memory.specs.Laid.{laid}
use Rattle.refusals.specs.Found.{Found}

module _ (w : Alphabet) (n price : ℕ) (totals entries : List ℕ) (right : rightly (code_on w) (held n price totals entries) ≡ true) where
  abbrev C : Code
  C = code_on w

  abbrev before : Held
  before = held n price totals entries

  abbrev stored : Rightly C before
  stored = rightly_means C before right

  -- an entry is set
  module _ (i b x q : ℕ) (bound : (n ≤ C.positions) × (i < n) × (b < C.symbols)) (is : q ≡ C.symbols) where
    abbrev after_set : List ℕ
    after_set = with_entry C entries i b x

    here : i < C.positions
    here = let few = bound.0 in let h = bound.1 in omega arith

    set_there : set entries (q * i + b) x ≡ after_set
    set_there = ap (λ (s : ℕ). set entries (s * i + b) x) is

    old_there : get_or entries (q * i + b) 0 ≡ get_or entries (C.symbols * i + b) 0
    old_there = ap (λ (s : ℕ). get_or entries (s * i + b) 0) is

    found : (r : Option ℕ) → Lowest entries (set entries (q * i + b) x ∷ []) r → Found (lowest_above C (entries ∷ after_set ∷ [])) (places C) r
    found r f = subst (λ (l : List ℕ). Found (lowest_above C (entries ∷ l ∷ [])) (places C) r) set_there (f C stored.full)

    -- the lowest entry above 5 is refused, and the record is as it was
    pub set_refused : (bad : ℕ) → Lowest entries (set entries (q * i + b) x ∷ []) (Some bad)
        → Edits (in_or_out C (entries ∷ after_set ∷ []) ∷ []) before (held_of C n after_set) (refused 5 bad) totals entries
    set_refused bad f = above_refused C (entries ∷ after_set ∷ []) before (held_of C n after_set) bad (found (Some bad) f)

    -- the total and the cost that are stored are small
    pub set_small : Lowest entries (set entries (q * i + b) x ∷ []) None → (get_or totals i 0 ≤ 5 * 32) × (price ≤ 15 * 992)
    set_small f =
        let none = not_given C (entries ∷ after_set ∷ []) before (held_of C n after_set) (found None f) in
        let total = total_limited C before stored (after_set ∷ []) none i here in
        let least = cost_limited C before stored (after_set ∷ []) none in
        let most = (sized w).most in
        let room = places_within w in
        (omega arith, omega arith)

    -- the new total and the new cost with the old entry's are the old ones with the new entry's
    pub set_moves : (sum_of_column C after_set i + get_or entries (q * i + b) 0 ≡ get_or totals i 0 + x)
        × (cost after_set + entry_cost (get_or entries (q * i + b) 0) ≡ price + entry_cost x)
    set_moves = (
      ap (λ (old : ℕ). sum_of_column C after_set i + old) old_there ∙ total_moves C before stored i here b x bound.2,
      ap (λ (old : ℕ). cost after_set + entry_cost old) old_there ∙ cost_moves C before stored i here b x bound.2,
    )

    -- so they are what is left of these without the old entry's
    pub set_right_done : Lowest entries (set entries (q * i + b) x ∷ []) None → (t c : ℕ)
        → t + get_or entries (q * i + b) 0 ≡ get_or totals i 0 + x → c + entry_cost (get_or entries (q * i + b) 0) ≡ price + entry_cost x
        → Edits (in_or_out C (entries ∷ after_set ∷ []) ∷ []) before (held_of C n after_set) (costed c 0) (set totals i t) (set entries (q * i + b) x)
    set_right_done f t c total least =
        set_done C before stored i here b x bound.2 (found None f) t c (ap (λ (old : ℕ). t + old) (sym old_there) ∙ total)
        (ap (λ (old : ℕ). c + entry_cost old) (sym old_there) ∙ least) (set entries (q * i + b) x) set_there

  -- a column is cleared
  module _ (i q : ℕ) (bound : (n ≤ C.positions) × (i < n)) (is : q ≡ C.symbols) where
    abbrev after_clear : List ℕ
    after_clear = without_column C entries i

    here_too : i < C.positions
    here_too = let few = bound.0 in let h = bound.1 in omega arith

    cleared : (r : Option ℕ) → Found (first_above greatest_level entries) (length entries) r → Found (lowest_above C (entries ∷ after_clear ∷ [])) (places C) r
    cleared = found_cleared C entries stored.full i here_too

    pub clear_refused : (bad : ℕ) → Found (first_above greatest_level entries) (length entries) (Some bad)
        → Edits (in_or_out C (entries ∷ after_clear ∷ []) ∷ []) before (held_of C n after_clear) (refused 5 bad) totals entries
    clear_refused bad f = above_refused C (entries ∷ after_clear ∷ []) before (held_of C n after_clear) bad (cleared (Some bad) f)

    -- the cost of the part that is lent is the column's
    paid : (p : ℕ) → p ≡ cost (take (q * i + q - q * i) (drop (q * i) entries)) → p ≡ cost (take C.symbols (drop (C.symbols * i) entries))
    paid p e =
        let many : q * i + q - q * i ≡ q = omega arith in
        e ∙ ap (λ (m : ℕ). cost (take m (drop (q * i) entries))) many ∙ ap (λ (s : ℕ). cost (take s (drop (s * i) entries))) is

    -- what is left without the column's cost is the cost of the rest
    pub clear_moves : (p : ℕ) → p ≡ cost (take (q * i + q - q * i) (drop (q * i) entries)) → cost after_clear + p ≡ price
    clear_moves p e = without_column_lem C before stored i here_too p (paid p e)

    pub clear_right_done : Found (first_above greatest_level entries) (length entries) None → (p : ℕ) → p ≡ cost (take (q * i + q - q * i) (drop (q * i) entries))
        → (out : List ℕ) → out ≡ laid entries (q * i) (replicate q 0)
        → Edits (in_or_out C (entries ∷ after_clear ∷ []) ∷ []) before (held_of C n after_clear) (costed (price - p) 0) (set totals i 0) out
    clear_right_done f p e out zeros =
        let moved = clear_moves p e in
        clear_done C before stored i here_too (cleared None f) p (price - p) (paid p e) (omega arith) out
        (zeros ∙ ap (λ (s : ℕ). laid entries (s * i) (replicate s 0)) is ∙ laid_cleared C entries i)

  -- another matrix is added
  module _ (others : List ℕ) where
    abbrev after_add : List ℕ
    after_add = with_added entries others

    abbrev three : List (List ℕ)
    three = entries ∷ others ∷ after_add ∷ []

    pub add_refused : (bad : ℕ) → Lowest entries (others ∷ after_add ∷ []) (Some bad)
        → Edits (in_or_out C three ∷ []) before (held_of C n after_add) (refused 5 bad) totals entries
    add_refused bad f = above_refused C three before (held_of C n after_add) bad (f C stored.full)

    -- no entry is above 5, so the sums fit
    pub add_low : Lowest entries (others ∷ after_add ∷ []) None → LowSum entries others
    add_low f = low_sum C entries others stored.full (not_given C three before (held_of C n after_add) (f C stored.full))

    pub add_right_done : Lowest entries (others ∷ after_add ∷ []) None → (now : List ℕ) → now ≡ after_add → {c : ℕ} {counted : List ℕ} → c ≡ cost now
        → counted ≡ totals_of C now → Edits (in_or_out C three ∷ []) before (held_of C n after_add) (costed c 0) counted now
    add_right_done f now e ec et =
        none_above_done C three before (held_of C n after_add) (f C stored.full) _ _ _ (ec ∙ ap cost e) (et ∙ ap (totals_of C) e) e
