-- Where a row is opened the list that is judged holds it; anything else opens none.
-- Assumes nothing.
use mathlib.Core.Bool.{true, false, false≢true}
use mathlib.Core.List.{List, [], ◌∷◌}
use mathlib.Core.Path.{◌≡◌, refl, sym, ap}
use Prim.Native.Nat.{ℕ, ◌*◌, ◌≤◌}
use native.Mathlib.Nat.{mul-le-mul, mul-one, le_refl}
use native.Mathlib.Omega.{arith}
use borrow.Author.Tests.{eqb-true, eq-eqb, ne_eqb}
use lib.ListN.{length}
use Rattle.std.specs.Prelude.{Result, Ok, Err}
use Rattle.counter.proofs.Both.{both_full}
use Rattle.counter.proofs.Judging.{open_some}
use Rattle.opening.specs.Handing.{is_open}
use Rattle.counter.specs.Judging.{to_open, judged, apart, of_judged, both_judged, judge_table, both_table, judge_answer, both_answer}
use Rattle.counter.specs.Verdict.{verdict_number, told_verdict}
use Rattle.counter.specs.declared.Settings.{Settings}
use Rattle.counter.specs.declared.Verdict.{Verdict}
use Rattle.counter.specs.declared.Verdict.TheVariants.{Open, Ask, Nothing}
use Rattle.definitions.proofs.Table.{Accepts, next, end, size_means, sizes_mean}
use Rattle.definitions.proofs.Tools.{split}
use Rattle.definitions.specs.Answers.{Answer, refused, valued}
use Rattle.definitions.specs.Field.{Code}
use Rattle.definitions.specs.Refusals.{Line, tried}
use Rattle.refusals.proofs.Chained.{told_is}
use Rattle.refusals.specs.declared.Refusal.{Refusal}
use Rattle.rows.proofs.Rows.{list_line_means}

-- the answer whose verdict is Open opens
pub opens : {v : Verdict} {answer : Answer} → v ≡ Open → valued (verdict_number v) ≡ answer → is_open answer ≡ true
opens e h = ap is_open (sym (rw e at h))

-- a verdict that is not Open opens none, and no refusal does
pub other_verdict : (v : Result Verdict Refusal) → (v ≡ Ok Open → ⊥) → is_open (told_verdict v) ≡ false
other_verdict (Ok Open) n = absurd (n refl)
other_verdict (Ok Ask) n = refl
other_verdict (Ok Nothing) n = refl
other_verdict (Err r) n = ap is_open (told_is r)

-- a table that gives Open accepts: no refusal has a value
open_accepts : (table : List Line) (value : ℕ) → is_open (tried table refused (valued value)) ≡ true → Accepts table × (value ≡ to_open)
open_accepts [] value e = (end, eqb-true value to_open e)
open_accepts (l ∷ table) value e =
    split l.given (λ y. absurd (false≢true (rw y at e))) (λ n. let r = open_accepts table value (rw n at e) in (next n r.0, r.1))

-- a list with rows has one
row_of_some : (k count size : ℕ) → size ≡ k * count → 1 ≤ count → k ≤ size
row_of_some k count size e h =
    let least : k * 1 ≤ k * count = mul-le-mul (le_refl k) h in
    let one = mul-one k in
    omega arith

module _ (C : Code) where
  one_full : (k : ℕ) (rows scores : List ℕ) (g : ℕ) → Accepts (judge_table C k rows scores g) → length rows ≡ k * length scores
  one_full k rows scores g (next a (next b (next c later))) = list_line_means k rows scores c

  -- the row is there
  pub row_there : (k : ℕ) (rows scores : List ℕ) (g : ℕ) → is_open (judge_answer C k rows scores g) ≡ true → k ≤ length rows
  row_there k rows scores g e =
      let r = open_accepts (judge_table C k rows scores g) (judged g scores) e in
      row_of_some k (length scores) (length rows) (one_full k rows scores g r.0) (open_some g scores r.1)

  -- of two lists it is in the one that is judged
  pub row_in_judged : (s : Settings) (rows scores : List ℕ) (t : Settings) (others other_scores : List ℕ) (g : ℕ)
      → is_open (both_answer C s rows scores t others other_scores g) ≡ true
      → (length scores ≡ 0 → s.k ≤ length others) × ((length scores ≡ 0 → ⊥) → s.k ≤ length rows)
  row_in_judged s rows scores t others other_scores g e =
      let r = open_accepts (both_table C s rows scores t others other_scores g) (both_judged s.k g rows scores others other_scores) e in
      let full = both_full C s t rows scores others other_scores g r.0 in
      let some : 1 ≤ length (of_judged scores scores other_scores) = open_some g (of_judged scores scores other_scores) (together r.1) in (
        λ none. row_of_some s.k (length other_scores) (length others) full.1 (rw (eq-eqb (length scores) 0 none) at some),
        λ any. row_of_some s.k (length scores) (length rows) full.0 (rw (ne_eqb (length scores) 0 any) at some),
      )
    where
      together : both_judged s.k g rows scores others other_scores ≡ to_open → judged g (of_judged scores scores other_scores) ≡ to_open
      together h =
          split (apart s.k rows scores others other_scores)
          (λ y. let z : ◌≡◌ {A = ℕ} 2 1 = rw y at h in let no : ⊥ = omega arith in absurd no)
          (λ n. rw n at h)

  -- and its k fits
  pub open_sized : (k : ℕ) (rows scores : List ℕ) (g : ℕ) → is_open (judge_answer C k rows scores g) ≡ true → (2 ≤ k) × (k ≤ C.positions)
  open_sized k rows scores g e = k_of (open_accepts (judge_table C k rows scores g) (judged g scores) e).0
    where
      k_of : Accepts (judge_table C k rows scores g) → (2 ≤ k) × (k ≤ C.positions)
      k_of (next a later) = size_means C k a

  pub both_open_sized : (s : Settings) (rows scores : List ℕ) (t : Settings) (others other_scores : List ℕ) (g : ℕ)
      → is_open (both_answer C s rows scores t others other_scores g) ≡ true → (2 ≤ s.k) × (s.k ≤ C.positions)
  both_open_sized s rows scores t others other_scores g e =
      k_of (open_accepts (both_table C s rows scores t others other_scores g) (both_judged s.k g rows scores others other_scores) e).0
    where
      k_of : Accepts (both_table C s rows scores t others other_scores g) → (2 ≤ s.k) × (s.k ≤ C.positions)
      k_of (next a later) = let h = sizes_mean C s.n s.k a in (h.0, omega arith)
