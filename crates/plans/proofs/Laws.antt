-- The laws of the planner hold of any reliabilities, and over any code.
-- Assumes nothing.
use mathlib.Core.Bool.{not}
use mathlib.Core.List.{List}
use Prim.Native.Nat.{ℕ, ◌<◌}
use native.Mathlib.Omega.{arith}
use borrow.Author.Tests.{ltb-true}
use lib.ListN.{length}
use Rattle.definitions.proofs.Tools.{smallest_le}
use Rattle.definitions.specs.Field.{Code}
use Rattle.definitions.specs.Planning.{beats, best}
use Rattle.definitions.specs.Tools.{every}
use Rattle.plans.proofs.Expected.{unbeaten, plan_expects_most}
use Rattle.plans.proofs.Leads.{best_leads}
use Rattle.plans.proofs.Planning.{plan_low, plan_stays, done_after, all_done, steps_are_sum}
use Rattle.plans.proofs.Taken.{written_taken, taken_is_plan, refused_is_none, held_taken_is_plan, held_refused_is_none, plan_listed}
use Rattle.plans.proofs.Taken.{held_plan_listed, plan_affordable, held_plan_affordable, written_listed}
use Rattle.plans.specs.Laws.{times, RuleLaws, PlanLaws}

rule : (r : List ℕ) → RuleLaws r
rule r = record {
  best_within = λ m some. (best_leads r m some).to;
  best_largest = λ m i h. unbeaten r m i h;
  best_lowest = λ m i h. ltb-true (times r m i (best r m)) (times r m (best r m) i) ((best_leads r m (some m i h)).lowest i (omega arith) h);
  plan_stays = λ s t e. plan_stays r s e t;
  done_stays = λ s t e. done_after r s e t;
  plan_low = λ s j. plan_low r s j;
  steps_are_sum = λ s. steps_are_sum r s;
  all_done = λ s e. all_done r s e;
  expects_most = λ s m full paid. plan_expects_most r s m full paid;
}
  where
    some : (m : List ℕ) (i : ℕ) → i < best r m → 0 < length r
    some m i h = let most = smallest_le (λ i. every (length r) (λ j. not (beats r m j i))) (length r) in omega arith

pub plan_laws : (C : Code) → PlanLaws C
plan_laws C = record {
  rule = rule;
  taken_is_plan = λ n s r m zero. taken_is_plan C n s r m zero;
  refused_is_none = λ n s r m nine. refused_is_none C n s r m nine;
  held_taken_is_plan = λ h s r zero. held_taken_is_plan C h s r zero;
  held_refused_is_none = λ h s r nine. held_refused_is_none C h s r nine;
  written_taken = λ n s r out zero. written_taken C n s r out zero;
  plan_listed = λ n k G s r m rows scores zero. plan_listed C n k G s r m rows scores zero;
  held_plan_listed = λ h k G s r rows scores zero. held_plan_listed C h k G s r rows scores zero;
  plan_affordable = λ n k s r m rows scores right. plan_affordable C n k s r m rows scores right;
  held_plan_affordable = λ h k s r rows scores right. held_plan_affordable C h k s r rows scores right;
  written_listed = λ n k s r out rows scores zero some fits rowed scored. written_listed C n k s r out rows scores zero some fits rowed scored;
}
