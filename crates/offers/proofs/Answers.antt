-- What the list of a plan answers and leaves where the plan is refused.
-- Assumes nothing.
use mathlib.Core.List.{List, [], ◌∷◌}
use mathlib.Core.Path.{◌≡◌, sym, ◌∙◌, ap}
use Prim.Native.Nat.{ℕ, ◌≤◌}
use borrow.Author.Tests.{le-ltb}
use native.Mathlib.Omega.{arith}
use Rattle.std.specs.Prelude.{Result, Err}
use Rattle.definitions.proofs.Table.{gives, pass, stop}
use Rattle.definitions.proofs.Tools.{split}
use Rattle.definitions.specs.Answers.{Answer, refused}
use Rattle.definitions.specs.Field.{Code}
use Rattle.definitions.specs.Planning.{steps_done, ruled, planned}
use Rattle.definitions.specs.Refusals.{tried, cost_within}
use Rattle.definitions.specs.Weights.{cost}
use Rattle.list_within.specs.Within.{Answered}
use Rattle.planner.specs.Planned.{told_planned}
use Rattle.planner.specs.declared.Planned.{Planned}
use Rattle.plans.proofs.Taken.{cost_and_plan_left}
use Rattle.refusals.proofs.Unique.{refusal_number}
use Rattle.refusals.specs.Refusal.{told_refusal}
use Rattle.refusals.specs.declared.Refusal.{Refusal}

module _ (C : Code) (n k G s : ℕ) (r m rows scores : List ℕ) (cheap : cost m ≤ G) {verdict : Result Planned Refusal}
    (says : told_planned verdict ≡ tried (ruled r s m ∷ []) refused (planned 0 (steps_done r s))) where
  pub refused_by_plan : {refusal : Refusal} → verdict ≡ Err refusal
      → Answered C (cost_and_plan_left G r s m) n k m rows scores (told_refusal refusal) rows scores
  refused_by_plan {refusal} e =
      let told : told_refusal refusal ≡ tried (ruled r s m ∷ []) refused (planned 0 (steps_done r s)) = ap told_planned (sym e) ∙ says in
      split (ruled r s m).given
      (λ wrong.
      let is : told_refusal refusal ≡ refused 9 0 = rw wrong at told in
      let none = ap (λ (a : Answer). a.count) is in
      let g = pass {l = cost_within G m} (le-ltb G (cost m) cheap) (stop {l = ruled r s m} {table = []} wrong) in
      (is ∙ gives refused _ g, (gives (λ _ _. rows) _ g, (gives (λ _ _. scores) _ g, omega arith))))
      (λ right. absurd (refusal_number refusal (ap (λ (a : Answer). a.number) (rw right at told))))
