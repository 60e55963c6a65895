-- The columns that a search has passed, and where it ends; and the sum of a column, also of one that the list does not reach.
-- Assumes nothing.
use Rattle.std.proofs.Common.{◌≡◌, ℕ, zero, suc, ◌+◌, ◌-◌, ◌≤◌, ◌<◌, ◌*◌, true, false, List, length, take, drop, get_or, min, refl, ◌∙◌, add-one, arith}
use Rattle.std.proofs.lemmas.Grind.{div_ceil_times}
use Rattle.std.proofs.lemmas.List.{get_or-drop, get_or_past, length-drop, take_all, take_min}
use Rattle.std.proofs.lemmas.List.Sums.{sum_by_more}
use Rattle.std.specs.Int.{div_ceil}
use Rattle.std.specs.List.{sum_by}
use borrow.Author.Tests.{lt-ltb, le-ltb}
use native.Mathlib.Decide.{dec_lt}
use native.Mathlib.Nat.{mul_comm, mul-le-mul_left, mul-zero}
use Rattle.definitions.proofs.Loops.{sum_none, sum_more}
use Rattle.definitions.proofs.Tools.{smallest_is, sum_suc, sum_bound}
use Rattle.definitions.specs.Answers.{refused}
use Rattle.definitions.specs.Field.{Code}
use Rattle.definitions.specs.Limits.{greatest_sum}
use Rattle.definitions.specs.Refusals.{bad_column, columns}
use Rattle.definitions.specs.Tools.{smallest, sum}
use Rattle.definitions.specs.Weights.{entry, sum_of_column}
use Rattle.refusals.specs.Refusal.{told_refusal}
use Rattle.refusals.specs.declared.Refusal.{Refusal}

-- the columns that a search has passed sum to at most 4,096
module _ (C : Code) (r : List ℕ) (n i : ℕ) (passed : (j : ℕ) → j < i → bad_column C r j ≡ false) where
  first_bad : i ≤ n → (i < n → bad_column C r i ≡ true) → smallest (bad_column C r) n ≡ i
  first_bad h bad = smallest_is (bad_column C r) n i h passed bad

  -- the next does not: the line is given there
  pub columns_given : i < n → bad_column C r i ≡ true → (refusal : Refusal) → told_refusal refusal ≡ refused 6 i
      → ((columns C n r).given ≡ true) × (told_refusal refusal ≡ refused 6 (columns C n r).place)
  columns_given h bad refusal told =
      let first = first_bad (omega arith) (λ _. bad) in
      (lt-ltb (smallest (bad_column C r) n) n (rw first h), rw first told)

  -- no column is left, so the line is passed
  pub columns_passed : n ≡ i → (columns C n r).given ≡ false
  columns_passed e =
      let first = first_bad (omega arith) (λ h. absurd (omega arith)) in
      le-ltb (smallest (bad_column C r) n) n (omega arith)

module _ (C : Code) (pos : 0 < C.symbols) (r : List ℕ) where
  -- the columns that begin within the list
  abbrev reached : ℕ
  reached = div_ceil (length r) C.symbols

  -- what the others are is read as 0
  column_behind : (j : ℕ) → reached ≤ j → bad_column C r j ≡ false
  column_behind j h =
      let whole = div_ceil_times (length r) C.symbols pos in
      let later = mul-le-mul_left C.symbols h in
      let swapped = mul_comm C.symbols reached in
      let none = sum_bound C.symbols 0 (entry C r j) (λ b _. rw (get_or_past r (C.symbols * j + b) 0 (omega (arith, whole.0, later, swapped))) (omega arith)) in
      let zero_sum = mul-zero C.symbols in
      le-ltb greatest_sum (sum_of_column C r j) (omega (arith, none, zero_sum))

  -- all that are asked for and begin within the list are passed, so the line is passed
  pub columns_ended : (n i : ℕ) → ((j : ℕ) → j < i → bad_column C r j ≡ false) → i ≡ min n reached → (columns C n r).given ≡ false
  columns_ended n i passed e =
      columns_passed C r n n (λ j h. elim (dec_lt j i) [
        | yes before ↦ passed j before
        | no behind ↦ column_behind j (omega arith)
      ]) refl

-- a part of a list, summed from its front, is what the page sums by places; behind the end of the list both are of nothing
pub part_sum : (l : List ℕ) (first many : ℕ) → sum_by (λ (x : ℕ). x) (take many (drop first l)) ≡ sum many (λ (b : ℕ). get_or l (first + b) 0)
part_sum l first zero = sum_none _
part_sum l first (suc many) =
    let f = λ (b : ℕ). get_or l (first + b) 0 in
    let before = part_sum l first many in
    let read = get_or-drop first l many 0 in
    elim (dec_lt many (length (drop first l))) [
      | yes inside ↦
          rw (← add-one many)
          (sum_by_more (λ (x : ℕ). x) (drop first l) many 0 inside
          ∙ sum_more f many (sum_by (λ (x : ℕ). x) (take many (drop first l))) (get_or (drop first l) many 0) before read)
      | no behind ↦
          rw (take_all (suc many) (drop first l) (omega arith), ← take_all many (drop first l) (omega arith), sum_suc many f, ← read, get_or_past (drop first l) many 0 (omega arith))
          (omega (arith, before))
    ]

-- a part that is cut where the list ends is the whole part
pub cut_sum : (l : List ℕ) (first many end : ℕ) → end - first ≡ min many (length l - first)
    → sum_by (λ (x : ℕ). x) (take (end - first) (drop first l)) ≡ sum many (λ (b : ℕ). get_or l (first + b) 0)
cut_sum l first many end e = rw (e, ← length-drop first l, take_min many (drop first l)) (part_sum l first many)
