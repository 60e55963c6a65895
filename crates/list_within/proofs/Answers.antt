-- What a list answers and leaves: where a check refuses, where the rows are listed, and where the cost refuses.
-- Assumes nothing.
use mathlib.Core.List.{List, [], ◌∷◌, ◌++◌}
use mathlib.Core.Path.{◌≡◌, ◌∙◌, ap, subst}
use Prim.Native.Nat.{ℕ, ◌<◌}
use borrow.Author.Tests.{lt-ltb}
use native.Mathlib.Omega.{arith}
use Rattle.std.specs.Prelude.{Result, Ok, Err}
use Rattle.definitions.proofs.Table.{Accepts, stop, gives, accepts}
use Rattle.definitions.specs.Answers.{Answer, refused, counted}
use Rattle.definitions.specs.Field.{Code}
use Rattle.definitions.specs.Listing.{list_of}
use Rattle.definitions.specs.Refusals.{Line, cost_within}
use Rattle.definitions.specs.Weights.{cost}
use Rattle.list_within.specs.Within.{Lists, Answered}
use Rattle.refusals.proofs.Chained.{Came, told_is, answers, stops, goes_on}
use Rattle.refusals.specs.Checked.{told_checked}
use Rattle.refusals.specs.Refusal.{told_refusal}
use Rattle.refusals.specs.declared.Refusal.{Refusal}

-- a chain has tried the front of a table; the rest speaks of the bytes
module _ (C : Code) (n k : ℕ) (rest : List ℕ → List Line) (m rows scores : List ℕ) {T : Type 0} {front : List Line} {c : Result T Refusal}
    (came : Came front [] (told_checked c)) where
  pub refused_by_check : {r : Refusal} → c ≡ Err r → Answered C (front ++ rest m) n k m rows scores (told_refusal r) rows scores
  refused_by_check {r} e =
      let none = ap (λ (a : Answer). a.count) (told_is r) in
      (answers came (rest m) _ e, (stops came (rest m) (λ _ _. rows) _ e, (stops came (rest m) (λ _ _. scores) _ e, omega arith)))

  -- of the same bytes
  pub passed_on : {x : T} → c ≡ Ok x → {bytes : List ℕ} → bytes ≡ m → (answer : Answer) (rows_after scores_after : List ℕ)
      → Answered C (rest bytes) n k bytes rows scores answer rows_after scores_after → Answered C (front ++ rest m) n k m rows scores answer rows_after scores_after
  passed_on e same answer rows_after scores_after w =
      let of = subst (λ (x : List ℕ). Answered C (rest x) n k x rows scores answer rows_after scores_after) same w in (
        of.0 ∙ goes_on came (rest m) refused _ e,
        (of.1.0 ∙ goes_on came (rest m) (λ _ _. rows) _ e, (of.1.1.0 ∙ goes_on came (rest m) (λ _ _. scores) _ e, of.1.1.1)),
      )

-- every line of a table was passed, and the rows are listed
pub listed : (C : Code) (n k : ℕ) (m rows scores : List ℕ) {table : List Line} → Accepts table → (count : ℕ) (rows_after scores_after : List ℕ)
    → Lists C n k m (list_of C n k m) rows scores count rows_after scores_after → Answered C table n k m rows scores (counted count) rows_after scores_after
listed C n k m rows scores a count rows_after scores_after w =
    (ap counted w.counted ∙ accepts refused _ a, (w.rows_are ∙ accepts (λ _ _. rows) _ a, (w.scores_are ∙ accepts (λ _ _. scores) _ a, w.few)))

-- the cost is above the limit
pub refused_by_cost : (C : Code) (n k G : ℕ) (m rows scores : List ℕ) (more : List Line) → G < cost m
    → Answered C (cost_within G m ∷ more) n k m rows scores (refused 7 0) rows scores
refused_by_cost C n k G m rows scores more h =
    let g = stop {l = cost_within G m} {table = more} (lt-ltb G (cost m) h) in
    (gives refused _ g, (gives (λ _ _. rows) _ g, (gives (λ _ _. scores) _ g, omega arith)))
