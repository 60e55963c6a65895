-- Every entry's promise determines its result, and so does that of every function of the C boundary: what is answered is told by its numbers.
-- Assumes nothing.
use mathlib.Core.List.{List}
use mathlib.Core.Path.{◌≡◌, refl, sym, ◌∙◌, ap, ap₂}
use Prim.Native.Nat.{ℕ}
use Rattle.algebra.specs.FieldOf.{FieldOf}
use Rattle.alphabet.specs.Codes.{code_on}
use Rattle.alphabet.specs.declared.Alphabet.{Alphabet}
use Rattle.counter.proofs.Unique.{one_verdict}
use Rattle.crossing.specs.Crossing.{answer_of}
use Rattle.crossing.specs.Part.{judgement_of}
use Rattle.crossing.specs.declared.Answer as crossing
use Rattle.crossing.specs.declared.judgements.Judgement as judgements
use Rattle.definitions.specs.Answers.{Answer, encode_answer, encode_out, multiplicities_answer, multiplicities_out, roots_answer, roots_out, list_answer}
use Rattle.definitions.specs.Answers.{list_rows, list_scores, read_answer, read_rows, read_scores}
use Rattle.definitions.specs.Editing.{lent_fresh_answer, lent_fresh_held, lent_bytes_answer, lent_bytes_held, set_answer, set_held, clear_answer, clear_held}
use Rattle.definitions.specs.Editing.{add_answer, add_held, held_list_answer, held_list_rows, held_list_scores}
use Rattle.definitions.specs.Field.{Code}
use Rattle.definitions.specs.Held.{Held}
use Rattle.definitions.specs.Planning.{plan_answer, plan_out, plan_list_answer, plan_list_rows, plan_list_scores, held_plan_list_answer, held_plan_list_rows, held_plan_list_scores}
use Rattle.definitions.specs.Proposals.{proposal_list_answer, proposal_list_rows, proposal_list_scores, held_proposal_list_answer, held_proposal_list_rows, held_proposal_list_scores}
use Rattle.editing.proofs.Unique.{one_priced, one_edited}
use Rattle.edits.specs.Priced.{told_priced}
use Rattle.entries.specs.Unique.{AllowsOne, Leaves, LeavesBoth, EditsParts, Unique}
use Rattle.field.proofs.Unique.{one_element}
use Rattle.instances.proofs.Codes.{field_on}
use Rattle.interpolation.proofs.Unique.{one_interpolated, numbers_unique, held_numbers_unique}
use Rattle.interpolation.specs.Interpolated.{told_interpolated}
use Rattle.interpolation.specs.declared.Interpolated.{Interpolated}
use Rattle.opening.proofs.Unique.{one_part}
use Rattle.opening.specs.Handing.{opened, both_opened}
use Rattle.planner.proofs.Unique.{one_planned}
use Rattle.planner.specs.Planned.{told_planned}
use Rattle.proposals.proofs.Unique.{one_proposed}
use Rattle.refusals.proofs.Unique.{one_counted}
use Rattle.std.specs.Prelude.{Result}
use Rattle.refusals.specs.Told.{told_counted}
use Rattle.refusals.specs.declared.Refusal.{Refusal}
use Rattle.weights.proofs.Unique.{one_costed}

-- an answer as it crosses to C is told by its numbers
one_crossed : (x y : crossing.Answer) → answer_of x ≡ answer_of y → x ≡ y
one_crossed x y e = ap back e
  where
    back : Answer → crossing.Answer
    back b = record { number = b.number; place = b.place; count = b.count; value = b.value; cost = b.cost; bound = b.bound }

one_judgement : (x y : judgements.Judgement) → judgement_of x ≡ judgement_of y → x ≡ y
one_judgement x y e = ap back e
  where
    back : Answer → judgements.Judgement
    back b = record { place = b.place; number = b.number; value = b.value; count = b.count }

-- so a result is told by the numbers of its answer and by what it leaves
module _ {X : Type 0} (told : X → Answer) (one : (x y : X) → told x ≡ told y → x ≡ y) where
  with_memory : (x y : X × List ℕ) → (told x.0 ≡ told y.0) × (x.1 ≡ y.1) → x ≡ y
  with_memory x y e = ap₂ {C = X × List ℕ} (λ a m. (a, m)) (one x.0 y.0 e.0) e.1

  one_left : (answer : Answer) (memory : List ℕ) → AllowsOne (Leaves told answer memory)
  one_left answer memory x y p q = with_memory x y (p.0 ∙ sym q.0, p.1 ∙ sym q.1)

  both_left : (answer : Answer) (memory other : List ℕ) → AllowsOne (LeavesBoth told answer memory other)
  both_left answer memory other x y p q =
      ap₂ {C = X × List ℕ × List ℕ} (λ (a : X × List ℕ) (m : List ℕ). (a.0, a.1, m))
      (one_left answer memory (x.0, x.1) (y.0, y.1) (p.0, p.1) (q.0, q.1)) (p.2 ∙ sym q.2)

-- of each kind of answer
counted : (answer : Answer) (memory : List ℕ) → AllowsOne (Leaves told_counted answer memory)
counted = one_left told_counted (λ x y e. one_counted e refl)

listed : (answer : Answer) (rows scores : List ℕ) → AllowsOne (LeavesBoth told_counted answer rows scores)
listed = both_left told_counted (λ x y e. one_counted e refl)

planned : (answer : Answer) (memory : List ℕ) → AllowsOne (Leaves told_planned answer memory)
planned = one_left told_planned (λ x y e. one_planned e refl)

interpolated : (x y : Result Interpolated Refusal × List ℕ) → (told_interpolated x.0 ≡ told_interpolated y.0) × (x.1 ≡ y.1) → x ≡ y
interpolated = with_memory told_interpolated (λ x y e. one_interpolated e refl)

edited : (answer : Answer) (after : Held) → AllowsOne (EditsParts answer after)
edited answer after = both_left told_priced (λ x y e. one_priced e refl) answer after.totals after.entries

module _ (C : Code) (F : FieldOf C) where
  pub unique : Unique C
  unique = record {
    sum = λ a b x y. one_element;
    product = λ a b x y. one_element;
    inverse = λ a x y. one_element;
    encode = λ n k f out. counted (encode_answer C n k f out) (encode_out C n k f out);
    multiplicities = λ n L r out. counted (multiplicities_answer C n L r out) (multiplicities_out C n L r out);
    cost_and_bound = λ n k m x y. one_costed;
    interpolate = λ n k G m out x y p q.
        interpolated x y (numbers_unique C F n k G m out (told_interpolated x.0) (told_interpolated y.0) x.1 y.1 p q);
    roots = λ D k q out. counted (roots_answer C D k q out) (roots_out C D k q out);
    list_of_multiplicities = λ n k G m rows scores.
        listed (list_answer C n k G m rows scores) (list_rows C n k G m rows scores) (list_scores C n k G m rows scores);
    list_of_reliabilities = λ n k L G r rows scores.
        listed (read_answer C n k L G r rows scores) (read_rows C n k L G r rows scores) (read_scores C n k L G r rows scores);
    judge = λ k rows scores g x y. one_verdict;
    judge_both = λ s rows scores t others other_scores g x y. one_verdict;
    opened = λ k rows scores g x y. one_part x y (opened C k rows scores g);
    opened_both = λ s rows scores t others other_scores g x y. one_part x y (both_opened C s rows scores t others other_scores g);
    fresh = λ n x y. one_edited;
    of_bytes = λ n m x y. one_edited;
    set_entry = λ h i b e x y. one_edited;
    clear_column = λ h i x y. one_edited;
    add = λ h o x y. one_edited;
    fresh_in_parts = λ n totals e. edited (lent_fresh_answer C n totals e) (lent_fresh_held C n totals e);
    of_bytes_in_parts = λ n m totals e. edited (lent_bytes_answer C n m totals e) (lent_bytes_held C n m totals e);
    set_entry_in_parts = λ h i b e. edited (set_answer C h i b e) (set_held C h i b e);
    clear_column_in_parts = λ h i. edited (clear_answer C h i) (clear_held C h i);
    add_in_parts = λ h o. edited (add_answer C h o) (add_held C h o);
    matrix_cost_and_bound = λ h k x y. one_costed;
    matrix_interpolate = λ h k G out x y p q.
        interpolated x y (held_numbers_unique C F h k G out (told_interpolated x.0) (told_interpolated y.0) x.1 y.1 p q);
    matrix_list = λ h k G rows scores. listed (held_list_answer C h k G rows scores) (held_list_rows C h k G rows scores) (held_list_scores C h k G rows scores);
    plan = λ n s r out. planned (plan_answer C n s r out) (plan_out C n s r out);
    check_plan = λ n s r m x y. one_planned;
    list_of_plan = λ n k G s r m rows scores.
        listed (plan_list_answer C n k G s r m rows scores) (plan_list_rows C n k G s r m rows scores) (plan_list_scores C n k G s r m rows scores);
    matrix_check_plan = λ h s r x y. one_planned;
    matrix_list_of_plan = λ h k G s r rows scores.
        listed (held_plan_list_answer C h k G s r rows scores) (held_plan_list_rows C h k G s r rows scores) (held_plan_list_scores C h k G s r rows scores);
    check_proposal = λ n k D m q x y. one_proposed;
    list_of_proposal = λ n k G D m q rows scores.
        listed (proposal_list_answer C n k G D m q rows scores) (proposal_list_rows C n k G D m q rows scores) (proposal_list_scores C n k G D m q rows scores);
    matrix_check_proposal = λ h k D q x y. one_proposed;
    matrix_list_of_proposal = λ h k G D q rows scores.
        listed (held_proposal_list_answer C h k G D q rows scores) (held_proposal_list_rows C h k G D q rows scores) (held_proposal_list_scores C h k G D q rows scores);
    crossed = λ answer x y p q. one_crossed x y (p ∙ sym q);
    crossed_with_memory = λ answer memory. one_left answer_of one_crossed answer memory;
    crossed_with_both = λ answer memory other. both_left answer_of one_crossed answer memory other;
    crossed_interpolate = λ n k G m out x y p q.
        with_memory answer_of one_crossed x y (numbers_unique C F n k G m out (answer_of x.0) (answer_of y.0) x.1 y.1 p q);
    crossed_matrix_interpolate = λ h k G out x y p q.
        with_memory answer_of one_crossed x y (held_numbers_unique C F h k G out (answer_of x.0) (answer_of y.0) x.1 y.1 p q);
    crossed_judgement = λ answer x y p q. one_judgement x y (p ∙ sym q);
  }

-- as the entries have it: of either alphabet
pub unique_on : (w : Alphabet) → Unique (code_on w)
unique_on w = unique (code_on w) (field_on w)
