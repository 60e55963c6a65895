-- Document 02, order 7: "Algorithm 1 of the Koetter-Vardy paper", which plans multiplicities; a plan "From outside", and its list.
-- Assumes nothing.
use Rattle.std.specs.Prelude.{Bool, cond, not, ◌||◌, List, [], ◌∷◌, ◌++◌, ℕ, zero, suc, ◌+◌, ◌*◌, eqb, ltb, length, get_or, drop, set, replicate}
use Rattle.definitions.specs.Answers.{Answer, refused, counted, rows_onto, scores_onto}
use Rattle.definitions.specs.Editing.{stored}
use Rattle.definitions.specs.Field.{Code}
use Rattle.definitions.specs.Held.{Held, bytes_of}
use Rattle.definitions.specs.Limits.{greatest_level, greatest_steps, greatest_rows}
use Rattle.definitions.specs.Listing.{list_of}
use Rattle.definitions.specs.Refusals.{Line, tried, line, sizes, size, limit, entries, room, entries_of, columns, cost_within}
use Rattle.definitions.specs.Tools.{every, smallest}

-- of the reliabilities r
module _ (r : List ℕ) where
  -- "reliability divided by (its multiplicity + 1), compared exactly": with the multiplicities m, place j has more than place i
  abbrev pub beats : List ℕ → ℕ → ℕ → Bool
  beats m j i = ltb (get_or r i 0 * (get_or m j 0 + 1)) (get_or r j 0 * (get_or m i 0 + 1))

  -- "the largest ..., ties to the lowest place"
  abbrev pub best : List ℕ → ℕ
  best m = smallest (λ (i : ℕ). every (length r) (λ (j : ℕ). not (beats m j i))) (length r)

  -- "At a step whose best entry has reliability 0, or already stands at 5, stop"
  abbrev pub stops : List ℕ → Bool
  stops m = eqb (get_or r (best m) 0) 0 || eqb (get_or m (best m) 0) greatest_level

  -- "each raises by one the entry"
  abbrev pub step : List ℕ → List ℕ
  step m = cond (stops m) m (set m (best m) (get_or m (best m) 0 + 1))

  -- "Start from all zeros, take s steps"
  unfoldable pub plan : ℕ → List ℕ
  plan zero = replicate (length r) 0
  plan (suc s) = step (plan s)

  -- "The steps done"
  unfoldable pub steps_done : ℕ → ℕ
  steps_done zero = 0
  steps_done (suc s) = cond (stops (plan s)) (steps_done s) (suc (steps_done s))

  -- "it equals the rule's result for its stated s"
  abbrev pub is_plan : ℕ → List ℕ → Bool
  is_plan s m = every (length r) (λ (j : ℕ). eqb (get_or m j 0) (get_or (plan s) j 0))

-- "s is 0 to 75, and a greater s is refusal 2"
abbrev pub steps : ℕ → Line
steps s = line 2 (ltb greatest_steps s)

-- "and otherwise refused as 9 plan"
abbrev pub ruled : List ℕ → ℕ → List ℕ → Line
ruled r s m = line 9 (not (is_plan r s m))

-- "The steps done are reported"
abbrev pub planned : ℕ → ℕ → Answer
planned n s = record { number = 0; place = 0; count = n; value = s; cost = 0; bound = 0 }

module _ (C : Code) where
  -- "Layout and room are as for multiplicities"
  abbrev pub plan_table : ℕ → ℕ → List ℕ → ℕ → List Line
  plan_table n s r out = size C n ∷ steps s ∷ entries (C.symbols * n) r ∷ room (C.symbols * n) out ∷ columns C n r ∷ []

  abbrev pub plan_answer : ℕ → ℕ → List ℕ → List ℕ → Answer
  plan_answer n s r out = tried (plan_table n s r (length out)) refused (planned (C.symbols * n) (steps_done r s))

  abbrev pub plan_out : ℕ → ℕ → List ℕ → List ℕ → List ℕ
  plan_out n s r out = tried (plan_table n s r (length out)) (λ _ _. out) (plan r s ++ drop (C.symbols * n) out)

  -- "From outside, a plan is taken exactly when it equals the rule's result", "tried last"
  abbrev pub check_table : ℕ → ℕ → List ℕ → List ℕ → List Line
  check_table n s r m =
      size C n ∷ steps s ∷ entries (C.symbols * n) r ∷ entries (C.symbols * n) m ∷ entries_of m ∷ columns C n r ∷ ruled r s m ∷ []

  abbrev pub check_answer : ℕ → ℕ → List ℕ → List ℕ → Answer
  check_answer n s r m = tried (check_table n s r m) refused (planned 0 (steps_done r s))

  -- "An accepted plan feeds the list like any other matrix, subject to G"
  abbrev pub plan_list_table : ℕ → ℕ → ℕ → ℕ → List ℕ → List ℕ → ℕ → ℕ → List Line
  plan_list_table n k G s r m rows scores =
      sizes C n k ∷ limit G ∷ steps s ∷ entries (C.symbols * n) r ∷ entries (C.symbols * n) m ∷ room (greatest_rows * k) rows
      ∷ room greatest_rows scores ∷ entries_of m ∷ columns C n r ∷ cost_within G m ∷ ruled r s m ∷ []

  abbrev pub plan_list_answer : ℕ → ℕ → ℕ → ℕ → List ℕ → List ℕ → List ℕ → List ℕ → Answer
  plan_list_answer n k G s r m rows scores =
      tried (plan_list_table n k G s r m (length rows) (length scores)) refused (counted (length (list_of C n k m)))

  abbrev pub plan_list_rows : ℕ → ℕ → ℕ → ℕ → List ℕ → List ℕ → List ℕ → List ℕ → List ℕ
  plan_list_rows n k G s r m rows scores =
      tried (plan_list_table n k G s r m (length rows) (length scores)) (λ _ _. rows) (rows_onto k (list_of C n k m) rows)

  abbrev pub plan_list_scores : ℕ → ℕ → ℕ → ℕ → List ℕ → List ℕ → List ℕ → List ℕ → List ℕ
  plan_list_scores n k G s r m rows scores =
      tried (plan_list_table n k G s r m (length rows) (length scores)) (λ _ _. scores) (scores_onto C n m (list_of C n k m) scores)

  -- "Every function that takes a matrix takes the new record" (order 5): a plan that is held in one
  abbrev pub held_check_table : Held → ℕ → List ℕ → List Line
  held_check_table h s r =
      size C h.n ∷ steps s ∷ entries (C.symbols * h.n) r ∷ stored C h ∷ entries_of h.entries ∷ columns C h.n r
      ∷ ruled r s (bytes_of C h) ∷ []

  abbrev pub held_check_answer : Held → ℕ → List ℕ → Answer
  held_check_answer h s r = tried (held_check_table h s r) refused (planned 0 (steps_done r s))

  abbrev pub held_plan_list_table : Held → ℕ → ℕ → ℕ → List ℕ → ℕ → ℕ → List Line
  held_plan_list_table h k G s r rows scores =
      sizes C h.n k ∷ limit G ∷ steps s ∷ entries (C.symbols * h.n) r ∷ stored C h ∷ room (greatest_rows * k) rows
      ∷ room greatest_rows scores ∷ entries_of h.entries ∷ columns C h.n r ∷ cost_within G (bytes_of C h) ∷ ruled r s (bytes_of C h) ∷ []

  abbrev pub held_plan_list_answer : Held → ℕ → ℕ → ℕ → List ℕ → List ℕ → List ℕ → Answer
  held_plan_list_answer h k G s r rows scores =
      tried (held_plan_list_table h k G s r (length rows) (length scores)) refused (counted (length (list_of C h.n k (bytes_of C h))))

  abbrev pub held_plan_list_rows : Held → ℕ → ℕ → ℕ → List ℕ → List ℕ → List ℕ → List ℕ
  held_plan_list_rows h k G s r rows scores =
      tried (held_plan_list_table h k G s r (length rows) (length scores)) (λ _ _. rows) (rows_onto k (list_of C h.n k (bytes_of C h)) rows)

  abbrev pub held_plan_list_scores : Held → ℕ → ℕ → ℕ → List ℕ → List ℕ → List ℕ → List ℕ
  held_plan_list_scores h k G s r rows scores =
      tried (held_plan_list_table h k G s r (length rows) (length scores)) (λ _ _. scores)
      (scores_onto C h.n (bytes_of C h) (list_of C h.n k (bytes_of C h)) scores)
