-- "A planner for multiplicities" (document 02, order 7): the laws of its rule, and of plans from outside, as one statement of the definitions.
-- Assumes nothing.
use Rattle.std.specs.Prelude.{true, false, List, ◌≢◌, ◌≡◌, ℕ, ◌+◌, ◌*◌, ◌≤◌, ◌<◌, length, get_or, take}
use Rattle.definitions.specs.Answers.{counted, list_answer, list_rows, list_scores}
use Rattle.definitions.specs.Editing.{held_list_answer, held_list_rows, held_list_scores}
use Rattle.definitions.specs.Field.{Code}
use Rattle.definitions.specs.Held.{Held, bytes_of}
use Rattle.definitions.specs.Limits.{greatest_level, greatest_limit, greatest_rows}
use Rattle.definitions.specs.Listing.{list_of}
use Rattle.definitions.specs.Planning.{best, stops, plan, steps_done, is_plan, planned, plan_answer, plan_out, check_answer, plan_list_answer, plan_list_rows}
use Rattle.definitions.specs.Planning.{plan_list_scores, held_check_answer, held_plan_list_answer, held_plan_list_rows, held_plan_list_scores}
use Rattle.definitions.specs.Tools.{sum}
use Rattle.definitions.specs.Weights.{cost}

-- "The problem reduces to finding the matrix M which maximizes the inner product of M and Π" (004): 4,096 times the expected score
abbrev pub expected : List ℕ → List ℕ → ℕ
expected r m = sum (length r) (λ (j : ℕ). get_or r j 0 * get_or m j 0)

-- the reliability of place i, times the multiplicity of place j and one: two quotients are compared by these products
abbrev pub times : List ℕ → List ℕ → ℕ → ℕ → ℕ
times r m i j = get_or r i 0 * (get_or m j 0 + 1)

-- of the rule, whatever the reliabilities
pub record RuleLaws (r : List ℕ) : Type 0 where
  -- "the entry with the largest reliability divided by (its multiplicity + 1), compared exactly, ties to the lowest place"
  pub best_within : (m : List ℕ) → 0 < length r → best r m < length r
  pub best_largest : (m : List ℕ) (i : ℕ) → i < length r → times r m i (best r m) ≤ times r m (best r m) i
  pub best_lowest : (m : List ℕ) (i : ℕ) → i < best r m → times r m i (best r m) < times r m (best r m) i
  -- "At a step whose best entry has reliability 0, or already stands at 5, stop": no later step changes anything
  pub plan_stays : (s t : ℕ) → stops r (plan r s) ≡ true → plan r (s + t) ≡ plan r s
  pub done_stays : (s t : ℕ) → stops r (plan r s) ≡ true → steps_done r (s + t) ≡ steps_done r s
  pub plan_low : (s j : ℕ) → get_or (plan r s) j 0 ≤ greatest_level
  -- "The steps done .. equal the sum of all entries", and are all s where the plan has not stopped
  pub steps_are_sum : (s : ℕ) → steps_done r s ≡ sum (length r) (λ (j : ℕ). get_or (plan r s) j 0)
  pub all_done : (s : ℕ) → stops r (plan r s) ≡ false → steps_done r s ≡ s
  -- "Algorithm 1 is an optimal algorithm" (004): no matrix that costs at most as much expects a greater score
  pub expects_most : (s : ℕ) (m : List ℕ) → length m ≡ length r → cost m ≤ cost (plan r s) → expected r m ≤ expected r (plan r s)

pub record PlanLaws (C : Code) : Type 0 where
  pub rule : (r : List ℕ) → RuleLaws r
  -- "From outside, a plan is taken exactly when it equals the rule's result for its stated s, and otherwise refused as 9 plan, tried last"
  pub taken_is_plan : (n s : ℕ) (r m : List ℕ) → (check_answer C n s r m).number ≡ 0 → m ≡ plan r s
  pub refused_is_none : (n s : ℕ) (r m : List ℕ) → (check_answer C n s r m).number ≡ 9 → m ≢ plan r s
  pub held_taken_is_plan : (h : Held) (s : ℕ) (r : List ℕ) → (held_check_answer C h s r).number ≡ 0 → bytes_of C h ≡ plan r s
  pub held_refused_is_none : (h : Held) (s : ℕ) (r : List ℕ) → (held_check_answer C h s r).number ≡ 9 → bytes_of C h ≢ plan r s
  -- so what is written for s steps is taken, as a plan of as many
  pub written_taken : (n s : ℕ) (r out : List ℕ) → (plan_answer C n s r out).number ≡ 0
      → check_answer C n s r (take (C.symbols * n) (plan_out C n s r out)) ≡ planned 0 (steps_done r s)
  -- "An accepted plan feeds the list like any other matrix": answer, rows and scores are those of its matrix
  pub plan_listed : (n k G s : ℕ) (r m rows scores : List ℕ) → (plan_list_answer C n k G s r m rows scores).number ≡ 0
      → (plan_list_answer C n k G s r m rows scores ≡ list_answer C n k G m rows scores)
      × (plan_list_rows C n k G s r m rows scores ≡ list_rows C n k G m rows scores)
      × (plan_list_scores C n k G s r m rows scores ≡ list_scores C n k G m rows scores)
  pub held_plan_listed : (h : Held) (k G s : ℕ) (r rows scores : List ℕ) → (held_plan_list_answer C h k G s r rows scores).number ≡ 0
      → (held_plan_list_answer C h k G s r rows scores ≡ held_list_answer C h k G rows scores)
      × (held_plan_list_rows C h k G s r rows scores ≡ held_list_rows C h k G rows scores)
      × (held_plan_list_scores C h k G s r rows scores ≡ held_list_scores C h k G rows scores)
  -- "subject to G": at the greatest limit no right plan costs too much
  pub plan_affordable : (n k s : ℕ) (r m rows scores : List ℕ) → is_plan r s m ≡ true → (plan_list_answer C n k greatest_limit s r m rows scores).number ≢ 7
  pub held_plan_affordable : (h : Held) (k s : ℕ) (r rows scores : List ℕ) → is_plan r s (bytes_of C h) ≡ true
      → (held_plan_list_answer C h k greatest_limit s r rows scores).number ≢ 7
  -- so what is written for s steps is listed there, where k fits and there is room
  pub written_listed : (n k s : ℕ) (r out rows scores : List ℕ) → (plan_answer C n s r out).number ≡ 0 → 2 ≤ k → k ≤ n → greatest_rows * k ≤ length rows
      → greatest_rows ≤ length scores
      → plan_list_answer C n k greatest_limit s r (take (C.symbols * n) (plan_out C n s r out)) rows scores ≡ counted (length (list_of C n k (plan r s)))
