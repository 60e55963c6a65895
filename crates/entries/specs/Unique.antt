-- "For every input, refusals too, each public promise determines the answer and the later contents of lent memory: show that any two results
-- allowed by it are equal" (document 01): of every public entry, and of what crosses to C, as one statement.
-- Assumes nothing.
use Rattle.std.specs.Prelude.{List, ◌≡◌, ℕ, Result}
use Rattle.std.specs.Borrow.{Bor}
use Rattle.counter.specs.Judging.{judge_answer, both_answer}
use Rattle.counter.specs.Verdict.{told_verdict}
use Rattle.counter.specs.declared.Settings.{Settings}
use Rattle.crossing.specs.Crossing.{answer_of}
use Rattle.crossing.specs.Part.{judgement_of}
use Rattle.crossing.specs.declared.Answer as crossing
use Rattle.definitions.specs.Answers.{Answer, sum_answer, product_answer, inverse_answer, encode_answer, encode_out, multiplicities_answer}
use Rattle.definitions.specs.Answers.{multiplicities_out, cost_answer, InterpolationAnswers, roots_answer, roots_out, list_answer, list_rows, list_scores}
use Rattle.definitions.specs.Answers.{read_answer, read_rows, read_scores}
use Rattle.definitions.specs.Editing.{fresh_answer, fresh_held, bytes_answer, bytes_held, lent_fresh_answer, lent_fresh_held, lent_bytes_answer, lent_bytes_held}
use Rattle.definitions.specs.Editing.{set_answer, set_held, clear_answer, clear_held, add_answer, add_held, held_cost_answer, HeldInterpolationAnswers}
use Rattle.definitions.specs.Editing.{held_list_answer, held_list_rows, held_list_scores}
use Rattle.definitions.specs.Field.{Code}
use Rattle.definitions.specs.Held.{Held}
use Rattle.definitions.specs.Planning.{plan_answer, plan_out, check_answer, plan_list_answer, plan_list_rows, plan_list_scores, held_check_answer, held_plan_list_answer, held_plan_list_rows, held_plan_list_scores}
use Rattle.definitions.specs.Proposals.{proposal_answer, proposal_list_answer, proposal_list_rows, proposal_list_scores, held_proposal_answer, held_proposal_list_answer}
use Rattle.definitions.specs.Proposals.{held_proposal_list_rows, held_proposal_list_scores}
use Rattle.editing.specs.declared.Edited.{Edited}
use Rattle.edits.specs.Priced.{told_priced}
use Rattle.field.specs.Element.{told_element}
use Rattle.interpolation.specs.Interpolated.{told_interpolated}
use Rattle.interpolation.specs.declared.Interpolated.{Interpolated}
use Rattle.matrix.specs.Record.{held_by}
use Rattle.opening.specs.Handing.{part_at, opened, both_opened}
use Rattle.planner.specs.Planned.{told_planned}
use Rattle.proposals.specs.Proposed.{told_proposed}
use Rattle.refusals.specs.Told.{told_counted}
use Rattle.refusals.specs.declared.Refusal.{Refusal}
use Rattle.weights.specs.Costed.{told_costed}

-- "any two results allowed by it are equal"
abbrev pub AllowsOne : {X : Type 0} → (X → Type 0) → Type 0
AllowsOne {X} promise = (x y : X) → promise x → promise y → x ≡ y

-- the forms of a promise: of the numbers of an answer; of these and of lent memory; of these and of two lent memories
module _ {X : Type 0} (told : X → Answer) where
  abbrev pub Answers : Answer → X → Type 0
  Answers answer x = told x ≡ answer

  abbrev pub Leaves : Answer → List ℕ → X × List ℕ → Type 0
  Leaves answer memory x = (told x.0 ≡ answer) × (x.1 ≡ memory)

  abbrev pub LeavesBoth : Answer → List ℕ → List ℕ → X × List ℕ × List ℕ → Type 0
  LeavesBoth answer memory other x = (told x.0 ≡ answer) × (x.1 ≡ memory) × (x.2 ≡ other)

-- of an edit: of a record by value, and of one that is lent in parts
abbrev pub Edits : Answer → Held → Edited → Type 0
Edits answer after x = (told_priced x.outcome ≡ answer) × (held_by x.matrix ≡ after)

abbrev pub EditsParts : Answer → Held → Result ℕ Refusal × List ℕ × List ℕ → Type 0
EditsParts answer after = LeavesBoth told_priced answer after.totals after.entries

-- one place and one content. (A reference has besides a name in the logic, which no program sees.)
abbrev pub SamePart : Bor (List ℕ) → Bor (List ℕ) → Type 0
SamePart x y = (x.ref_ptr ≡ y.ref_ptr) × (x.now ≡ y.now)

pub record Unique (C : Code) : Type 0 where
  -- the entries of document 01
  pub sum : (a b : ℕ) → AllowsOne (Answers told_element (sum_answer C a b))
  pub product : (a b : ℕ) → AllowsOne (Answers told_element (product_answer C a b))
  pub inverse : (a : ℕ) → AllowsOne (Answers told_element (inverse_answer C a))
  pub encode : (n k : ℕ) (f out : List ℕ) → AllowsOne (Leaves told_counted (encode_answer C n k f out) (encode_out C n k f out))
  pub multiplicities : (n L : ℕ) (r out : List ℕ) → AllowsOne (Leaves told_counted (multiplicities_answer C n L r out) (multiplicities_out C n L r out))
  pub cost_and_bound : (n k : ℕ) (m : List ℕ) → AllowsOne (Answers told_costed (cost_answer C n k m))
  -- here the promise names no answer, but what is true of it
  pub interpolate : (n k G : ℕ) (m out : List ℕ)
      → AllowsOne (λ (x : Result Interpolated Refusal × List ℕ). InterpolationAnswers C n k G m out (told_interpolated x.0) x.1)
  pub roots : (D k : ℕ) (q out : List ℕ) → AllowsOne (Leaves told_counted (roots_answer C D k q out) (roots_out C D k q out))
  pub list_of_multiplicities : (n k G : ℕ) (m rows scores : List ℕ)
      → AllowsOne (LeavesBoth told_counted (list_answer C n k G m rows scores) (list_rows C n k G m rows scores) (list_scores C n k G m rows scores))
  pub list_of_reliabilities : (n k L G : ℕ) (r rows scores : List ℕ)
      → AllowsOne (LeavesBoth told_counted (read_answer C n k L G r rows scores) (read_rows C n k L G r rows scores) (read_scores C n k L G r rows scores))
  -- the counter's (document 02, order 4)
  pub judge : (k : ℕ) (rows scores : List ℕ) (g : ℕ) → AllowsOne (Answers told_verdict (judge_answer C k rows scores g))
  pub judge_both : (s : Settings) (rows scores : List ℕ) (t : Settings) (others other_scores : List ℕ) (g : ℕ)
      → AllowsOne (Answers told_verdict (both_answer C s rows scores t others other_scores g))
  pub opened : (k : ℕ) (rows : Bor (List ℕ)) (scores : List ℕ) (g : ℕ) (x y : Bor (List ℕ))
      → part_at x ≡ opened C k rows scores g → part_at y ≡ opened C k rows scores g → SamePart x y
  pub opened_both : (s : Settings) (rows : Bor (List ℕ)) (scores : List ℕ) (t : Settings) (others : Bor (List ℕ)) (other_scores : List ℕ) (g : ℕ)
      (x y : Bor (List ℕ))
      → part_at x ≡ both_opened C s rows scores t others other_scores g → part_at y ≡ both_opened C s rows scores t others other_scores g → SamePart x y
  -- of a matrix record (order 5): made or edited by value
  pub fresh : (n : ℕ) → AllowsOne (Edits (fresh_answer C n) (fresh_held C n))
  pub of_bytes : (n : ℕ) (m : List ℕ) → AllowsOne (Edits (bytes_answer C n m) (bytes_held C n m))
  pub set_entry : (h : Held) (i b x : ℕ) → AllowsOne (Edits (set_answer C h i b x) (set_held C h i b x))
  pub clear_column : (h : Held) (i : ℕ) → AllowsOne (Edits (clear_answer C h i) (clear_held C h i))
  pub add : (h o : Held) → AllowsOne (Edits (add_answer C h o) (add_held C h o))
  -- in parts
  pub fresh_in_parts : (n : ℕ) (totals e : List ℕ) → AllowsOne (EditsParts (lent_fresh_answer C n totals e) (lent_fresh_held C n totals e))
  pub of_bytes_in_parts : (n : ℕ) (m totals e : List ℕ) → AllowsOne (EditsParts (lent_bytes_answer C n m totals e) (lent_bytes_held C n m totals e))
  pub set_entry_in_parts : (h : Held) (i b x : ℕ) → AllowsOne (EditsParts (set_answer C h i b x) (set_held C h i b x))
  pub clear_column_in_parts : (h : Held) (i : ℕ) → AllowsOne (EditsParts (clear_answer C h i) (clear_held C h i))
  pub add_in_parts : (h o : Held) → AllowsOne (EditsParts (add_answer C h o) (add_held C h o))
  -- and taken in place of bytes
  pub matrix_cost_and_bound : (h : Held) (k : ℕ) → AllowsOne (Answers told_costed (held_cost_answer C h k))
  pub matrix_interpolate : (h : Held) (k G : ℕ) (out : List ℕ)
      → AllowsOne (λ (x : Result Interpolated Refusal × List ℕ). HeldInterpolationAnswers C h k G out (told_interpolated x.0) x.1)
  pub matrix_list : (h : Held) (k G : ℕ) (rows scores : List ℕ)
      → AllowsOne (LeavesBoth told_counted (held_list_answer C h k G rows scores) (held_list_rows C h k G rows scores) (held_list_scores C h k G rows scores))
  -- the planner's (order 7)
  pub plan : (n s : ℕ) (r out : List ℕ) → AllowsOne (Leaves told_planned (plan_answer C n s r out) (plan_out C n s r out))
  pub check_plan : (n s : ℕ) (r m : List ℕ) → AllowsOne (Answers told_planned (check_answer C n s r m))
  pub list_of_plan : (n k G s : ℕ) (r m rows scores : List ℕ)
      → AllowsOne (LeavesBoth told_counted (plan_list_answer C n k G s r m rows scores) (plan_list_rows C n k G s r m rows scores)
      (plan_list_scores C n k G s r m rows scores))
  pub matrix_check_plan : (h : Held) (s : ℕ) (r : List ℕ) → AllowsOne (Answers told_planned (held_check_answer C h s r))
  pub matrix_list_of_plan : (h : Held) (k G s : ℕ) (r rows scores : List ℕ)
      → AllowsOne (LeavesBoth told_counted (held_plan_list_answer C h k G s r rows scores) (held_plan_list_rows C h k G s r rows scores)
      (held_plan_list_scores C h k G s r rows scores))
  -- of somebody else's polynomial (order 8)
  pub check_proposal : (n k D : ℕ) (m q : List ℕ) → AllowsOne (Answers told_proposed (proposal_answer C n k D m q))
  pub list_of_proposal : (n k G D : ℕ) (m q rows scores : List ℕ)
      → AllowsOne (LeavesBoth told_counted (proposal_list_answer C n k G D m q rows scores) (proposal_list_rows C n k G D m q rows scores)
      (proposal_list_scores C n k G D m q rows scores))
  pub matrix_check_proposal : (h : Held) (k D : ℕ) (q : List ℕ) → AllowsOne (Answers told_proposed (held_proposal_answer C h k D q))
  pub matrix_list_of_proposal : (h : Held) (k G D : ℕ) (q rows scores : List ℕ)
      → AllowsOne (LeavesBoth told_counted (held_proposal_list_answer C h k G D q rows scores) (held_proposal_list_rows C h k G D q rows scores)
      (held_proposal_list_scores C h k G D q rows scores))
  -- the functions of the C boundary: each has one of these promises, of the struct that crosses
  pub crossed : (answer : Answer) → AllowsOne (Answers answer_of answer)
  pub crossed_with_memory : (answer : Answer) (memory : List ℕ) → AllowsOne (Leaves answer_of answer memory)
  pub crossed_with_both : (answer : Answer) (memory other : List ℕ) → AllowsOne (LeavesBoth answer_of answer memory other)
  pub crossed_interpolate : (n k G : ℕ) (m out : List ℕ)
      → AllowsOne (λ (x : crossing.Answer × List ℕ). InterpolationAnswers C n k G m out (answer_of x.0) x.1)
  pub crossed_matrix_interpolate : (h : Held) (k G : ℕ) (out : List ℕ)
      → AllowsOne (λ (x : crossing.Answer × List ℕ). HeldInterpolationAnswers C h k G out (answer_of x.0) x.1)
  pub crossed_judgement : (answer : Answer) → AllowsOne (Answers judgement_of answer)
