-- What is planned is taken when it comes back, and nothing else is; whatever it costs it is within the greatest limit; and the list of a plan
-- that is taken is the list of its matrix.
-- Assumes nothing.
use mathlib.Core.Bool.{true, false, not}
use mathlib.Core.List.{List, [], ◌∷◌, ◌++◌}
use mathlib.Core.Logic.{◌≢◌}
use mathlib.Core.Path.{◌≡◌, refl, sym, ◌∙◌, ap}
use Prim.Native.Nat.{ℕ, ◌*◌, ◌≤◌}
use native.Mathlib.Omega.{arith}
use borrow.Author.Tests.{ltb-false, le-ltb, eq-eqb, not-false}
use lib.ListN.{length, take, drop}
use lib.Seq.{take_at, length-take-le}
use Rattle.definitions.proofs.Editing.{stored_means}
use Rattle.definitions.proofs.Held.{used_within}
use Rattle.definitions.proofs.Table.{Accepts, next, end, accepts, both_accept, without, passed_front, zero_accepts, sizes_mean, sizes_pass, size_means, entries_mean, none_passes}
use Rattle.definitions.proofs.Tools.{split}
use Rattle.definitions.specs.Answers.{refused, counted, list_answer, list_rows, list_scores}
use Rattle.definitions.specs.Editing.{stored, held_list_table, held_list_answer, held_list_rows, held_list_scores}
use Rattle.definitions.specs.Field.{Code}
use Rattle.definitions.specs.Held.{Held, bytes_of}
use Rattle.definitions.specs.Limits.{greatest_level, greatest_limit, greatest_steps, greatest_rows}
use Rattle.definitions.specs.Listing.{list_of}
use Rattle.definitions.specs.Planning.{plan, steps_done, is_plan, steps, ruled, planned, plan_table, plan_answer, plan_out, check_table, check_answer}
use Rattle.definitions.specs.Planning.{plan_list_table, plan_list_answer, plan_list_rows, plan_list_scores, held_check_table, held_check_answer}
use Rattle.definitions.specs.Planning.{held_plan_list_table, held_plan_list_answer, held_plan_list_rows, held_plan_list_scores}
use Rattle.definitions.specs.Refusals.{Line, tried, sizes, size, limit, entries, room, entries_of, columns, cost_within, list_table}
use Rattle.definitions.specs.Weights.{cost}
use Rattle.plans.proofs.Planning.{length_plan, plan_low, done_within, plan_cost, is_plan_lem, plan_is}

pub steps_mean : (s : ℕ) → (steps s).given ≡ false → s ≤ greatest_steps
steps_mean s e = ltb-false greatest_steps s e

pub ruled_means : (r : List ℕ) (s : ℕ) (m : List ℕ) → (ruled r s m).given ≡ false → is_plan r s m ≡ true
ruled_means r s m e = not-false (is_plan r s m) e

-- a plan of at most 75 steps costs at most 225
pub plan_within : (r : List ℕ) (s : ℕ) → s ≤ greatest_steps → cost (plan r s) ≤ greatest_limit
plan_within r s h = let c = plan_cost r s in let d = done_within r s in omega arith

-- "7 cost", and "9 plan, tried last"
abbrev pub cost_and_plan_left : ℕ → List ℕ → ℕ → List ℕ → List Line
cost_and_plan_left G r s m = cost_within G m ∷ ruled r s m ∷ []

-- where only these are left, a plan that costs no more than the limit is not refused for its cost
affordable : (G : ℕ) (r : List ℕ) (s : ℕ) (m : List ℕ) (front : List Line) (rows : ℕ) → without 7 front ≡ true → (Accepts front → cost m ≤ G)
    → (tried (front ++ cost_and_plan_left G r s m) refused (counted rows)).number ≡ 7 → ⊥
affordable G r s m front rows other cheap e =
    let (a, left) = passed_front 7 front (cost_and_plan_left G r s m) (counted rows) other e in
    let paid = le-ltb G (cost m) (cheap a) in
    split (ruled r s m).given (λ wrong. let z = rw (paid, wrong) at left in omega arith) (λ right. let z = rw (paid, right) at left in omega arith)

-- where the plan's line is the last, what is refused as 9 is not the rule's result
no_plan : (r : List ℕ) (s : ℕ) (m : List ℕ) (front : List Line) → without 9 front ≡ true
    → (tried (front ++ (ruled r s m ∷ [])) refused (planned 0 (steps_done r s))).number ≡ 9 → m ≢ plan r s
no_plan r s m front other e same =
    let left = (passed_front 9 front (ruled r s m ∷ []) (planned 0 (steps_done r s)) other e).1 in
    let z = rw (ap (is_plan r s) same ∙ is_plan_lem r s) at left in omega arith

module _ (C : Code) where
  -- the bytes of a record that is rightly held are as many as its n says
  bytes_full : (h : Held) → (stored C h).given ≡ false → h.n ≤ C.positions → length (bytes_of C h) ≡ C.symbols * h.n
  bytes_full h held few = length-take-le (C.symbols * h.n) h.entries (used_within C h (stored_means C h held) few)

  -- "From outside, a plan is taken exactly when it equals the rule's result": so the plan itself is
  plan_taken : (n s : ℕ) (r : List ℕ) (out : ℕ) → Accepts (plan_table C n s r out) → Accepts (check_table C n s r (plan r s))
  plan_taken n s r out (next size (next few (next full (next room (next columns end))))) =
      let whole : length (plan r s) ≡ C.symbols * n = length_plan r s ∙ entries_mean (C.symbols * n) r full in
      next size
      (next few
      (next full
      (next (ap not (eq-eqb (length (plan r s)) (C.symbols * n) whole))
      (next (none_passes greatest_level (plan r s) (plan_low r s)) (next columns (next (ap not (is_plan_lem r s)) end))))))

  -- what is written in front is the plan
  written : (n s : ℕ) (r out : List ℕ) → Accepts (plan_table C n s r (length out)) → take (C.symbols * n) (plan_out C n s r out) ≡ plan r s
  written n s r out a =
      ap (take (C.symbols * n)) (sym (accepts (λ _ _. out) (plan r s ++ drop (C.symbols * n) out) a))
      ∙ take_at (plan r s) (drop (C.symbols * n) out) (C.symbols * n) (length_plan r s ∙ wide a)
    where
      wide : Accepts (plan_table C n s r (length out)) → length r ≡ C.symbols * n
      wide (next size (next few (next full rest))) = entries_mean (C.symbols * n) r full

  -- so what is written for s steps is taken, as a plan of as many
  pub written_taken : (n s : ℕ) (r out : List ℕ) → (plan_answer C n s r out).number ≡ 0
      → check_answer C n s r (take (C.symbols * n) (plan_out C n s r out)) ≡ planned 0 (steps_done r s)
  written_taken n s r out zero =
      let a = zero_accepts (plan_table C n s r (length out)) (planned (C.symbols * n) (steps_done r s)) refl zero in
      ap (check_answer C n s r) (written n s r out a) ∙ sym (accepts refused (planned 0 (steps_done r s)) (plan_taken n s r (length out) a))

  -- and nothing else is
  pub taken_is_plan : (n s : ℕ) (r m : List ℕ) → (check_answer C n s r m).number ≡ 0 → m ≡ plan r s
  taken_is_plan n s r m zero = of_rule (zero_accepts (check_table C n s r m) (planned 0 (steps_done r s)) refl zero)
    where
      of_rule : Accepts (check_table C n s r m) → m ≡ plan r s
      of_rule (next size (next few (next full (next whole (next low (next columns (next right end))))))) =
          plan_is r s m (entries_mean (C.symbols * n) m whole ∙ sym (entries_mean (C.symbols * n) r full)) (ruled_means r s m right)

  -- what is refused as 9 is not it
  pub refused_is_none : (n s : ℕ) (r m : List ℕ) → (check_answer C n s r m).number ≡ 9 → m ≢ plan r s
  refused_is_none n s r m =
      no_plan r s m (size C n ∷ steps s ∷ entries (C.symbols * n) r ∷ entries (C.symbols * n) m ∷ entries_of m ∷ columns C n r ∷ []) refl

  -- of a record too
  pub held_taken_is_plan : (h : Held) (s : ℕ) (r : List ℕ) → (held_check_answer C h s r).number ≡ 0 → bytes_of C h ≡ plan r s
  held_taken_is_plan h s r zero = of_rule (zero_accepts (held_check_table C h s r) (planned 0 (steps_done r s)) refl zero)
    where
      of_rule : Accepts (held_check_table C h s r) → bytes_of C h ≡ plan r s
      of_rule (next size (next few (next full (next held (next low (next columns (next right end))))))) =
          plan_is r s (bytes_of C h) (bytes_full h held (size_means C h.n size).1 ∙ sym (entries_mean (C.symbols * h.n) r full)) (ruled_means r s (bytes_of C h) right)

  pub held_refused_is_none : (h : Held) (s : ℕ) (r : List ℕ) → (held_check_answer C h s r).number ≡ 9 → bytes_of C h ≢ plan r s
  held_refused_is_none h s r =
      no_plan r s (bytes_of C h) (size C h.n ∷ steps s ∷ entries (C.symbols * h.n) r ∷ stored C h ∷ entries_of h.entries ∷ columns C h.n r ∷ []) refl

  -- "An accepted plan feeds the list like any other matrix"
  listed_too : (n k G s : ℕ) (r m : List ℕ) (rows scores : ℕ) → Accepts (plan_list_table C n k G s r m rows scores) → Accepts (list_table C n k G m rows scores)
  listed_too n k G s r m rows scores (next sized (next low (next few (next full (next whole (next a (next b (next entries (next columns (next paid (next right end))))))))))) =
      next sized (next low (next whole (next a (next b (next entries (next paid end))))))

  pub plan_listed : (n k G s : ℕ) (r m rows scores : List ℕ) → (plan_list_answer C n k G s r m rows scores).number ≡ 0
      → (plan_list_answer C n k G s r m rows scores ≡ list_answer C n k G m rows scores)
      × (plan_list_rows C n k G s r m rows scores ≡ list_rows C n k G m rows scores)
      × (plan_list_scores C n k G s r m rows scores ≡ list_scores C n k G m rows scores)
  plan_listed n k G s r m rows scores zero =
      let listed = list_of C n k m in
      let a = zero_accepts (plan_list_table C n k G s r m (length rows) (length scores)) (counted (length listed)) refl zero in
      let b = listed_too n k G s r m (length rows) (length scores) a in
      (both_accept refused _ a b, both_accept (λ _ _. rows) _ a b, both_accept (λ _ _. scores) _ a b)

  -- of one that is held in a record too
  held_listed_too : (h : Held) (k G s : ℕ) (r : List ℕ) (rows scores : ℕ) → Accepts (held_plan_list_table C h k G s r rows scores)
      → Accepts (held_list_table C h k G rows scores)
  held_listed_too h k G s r rows scores (next sized (next low (next few (next full (next held (next a (next b (next entries (next columns (next paid (next right end))))))))))) =
      next sized (next low (next held (next a (next b (next entries (next paid end))))))

  pub held_plan_listed : (h : Held) (k G s : ℕ) (r rows scores : List ℕ) → (held_plan_list_answer C h k G s r rows scores).number ≡ 0
      → (held_plan_list_answer C h k G s r rows scores ≡ held_list_answer C h k G rows scores)
      × (held_plan_list_rows C h k G s r rows scores ≡ held_list_rows C h k G rows scores)
      × (held_plan_list_scores C h k G s r rows scores ≡ held_list_scores C h k G rows scores)
  held_plan_listed h k G s r rows scores zero =
      let listed = list_of C h.n k (bytes_of C h) in
      let a = zero_accepts (held_plan_list_table C h k G s r (length rows) (length scores)) (counted (length listed)) refl zero in
      let b = held_listed_too h k G s r (length rows) (length scores) a in
      (both_accept refused _ a b, both_accept (λ _ _. rows) _ a b, both_accept (λ _ _. scores) _ a b)

  -- the lines before the columns, the cost and the plan: of bytes
  module _ (n k G s : ℕ) (r m : List ℕ) (rows scores : ℕ) where
    abbrev pub plan_start : List Line
    plan_start =
        sizes C n k ∷ limit G ∷ steps s ∷ entries (C.symbols * n) r ∷ entries (C.symbols * n) m ∷ room (greatest_rows * k) rows ∷ room greatest_rows scores
        ∷ entries_of m ∷ []

  -- of a record
  module _ (h : Held) (k G s : ℕ) (r : List ℕ) (rows scores : ℕ) where
    abbrev pub held_plan_start : List Line
    held_plan_start =
        sizes C h.n k ∷ limit G ∷ steps s ∷ entries (C.symbols * h.n) r ∷ stored C h ∷ room (greatest_rows * k) rows ∷ room greatest_rows scores
        ∷ entries_of h.entries ∷ []

  right_within : (n s : ℕ) (r m : List ℕ) → is_plan r s m ≡ true → (steps s).given ≡ false → (entries (C.symbols * n) r).given ≡ false
      → length m ≡ C.symbols * n → cost m ≤ greatest_limit
  right_within n s r m right few full whole =
      rw (plan_is r s m (whole ∙ sym (entries_mean (C.symbols * n) r full)) right) (plan_within r s (steps_mean s few))

  -- at the greatest limit no right plan costs too much
  pub plan_affordable : (n k s : ℕ) (r m rows scores : List ℕ) → is_plan r s m ≡ true
      → (plan_list_answer C n k greatest_limit s r m rows scores).number ≡ 7 → ⊥
  plan_affordable n k s r m rows scores right =
      affordable greatest_limit r s m (plan_start n k greatest_limit s r m (length rows) (length scores) ++ (columns C n r ∷ [])) (length (list_of C n k m)) refl cheap
    where
      cheap : Accepts (plan_start n k greatest_limit s r m (length rows) (length scores) ++ (columns C n r ∷ [])) → cost m ≤ greatest_limit
      cheap (next sized (next low (next few (next full (next whole rest))))) =
          right_within n s r m right few full (entries_mean (C.symbols * n) m whole)

  pub held_plan_affordable : (h : Held) (k s : ℕ) (r rows scores : List ℕ) → is_plan r s (bytes_of C h) ≡ true
      → (held_plan_list_answer C h k greatest_limit s r rows scores).number ≡ 7 → ⊥
  held_plan_affordable h k s r rows scores right =
      affordable greatest_limit r s (bytes_of C h) (held_plan_start h k greatest_limit s r (length rows) (length scores) ++ (columns C h.n r ∷ []))
      (length (list_of C h.n k (bytes_of C h))) refl cheap
    where
      cheap : Accepts (held_plan_start h k greatest_limit s r (length rows) (length scores) ++ (columns C h.n r ∷ [])) → cost (bytes_of C h) ≤ greatest_limit
      cheap (next sized (next low (next few (next full (next held rest))))) =
          right_within h.n s r (bytes_of C h) right few full (bytes_full h held (sizes_mean C h.n k sized).2)

  -- so what is written for s steps is listed at the greatest limit, where k fits and there is room
  pub written_listed : (n k s : ℕ) (r out rows scores : List ℕ) → (plan_answer C n s r out).number ≡ 0 → 2 ≤ k → k ≤ n → greatest_rows * k ≤ length rows
      → greatest_rows ≤ length scores
      → plan_list_answer C n k greatest_limit s r (take (C.symbols * n) (plan_out C n s r out)) rows scores ≡ counted (length (list_of C n k (plan r s)))
  written_listed n k s r out rows scores zero some fits rowed scored =
      let a = zero_accepts (plan_table C n s r (length out)) (planned (C.symbols * n) (steps_done r s)) refl zero in
      ap (λ (m : List ℕ). plan_list_answer C n k greatest_limit s r m rows scores) (written n s r out a)
      ∙ sym (accepts refused (counted (length (list_of C n k (plan r s)))) (listed (plan_taken n s r (length out) a)))
    where
      listed : Accepts (check_table C n s r (plan r s)) → Accepts (plan_list_table C n k greatest_limit s r (plan r s) (length rows) (length scores))
      listed (next size (next few (next full (next whole (next low (next columns (next right end))))))) =
          next (sizes_pass C n k some fits (size_means C n size).1)
          (next refl
          (next few
          (next full
          (next whole
          (next (le-ltb (length rows) (greatest_rows * k) rowed)
          (next (le-ltb (length scores) greatest_rows scored)
          (next low (next columns (next (le-ltb greatest_limit (cost (plan r s)) (plan_within r s (steps_mean s few))) (next right end))))))))))
