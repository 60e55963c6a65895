-- Every number that an entry on a matrix record answers fits sixteen bits.
-- Assumes nothing.
use mathlib.Core.Bool.{true, cond}
use mathlib.Core.List.{List, [], ◌∷◌}
use mathlib.Core.Path.{◌≡◌, sym, ◌∙◌}
use Prim.Native.Nat.{ℕ, ◌+◌, ◌*◌, ◌-◌, ◌≤◌}
use native.Mathlib.Omega.{arith}
use borrow.Author.Tests.{ltb-true}
use lib.ListN.{length, get_or, length-set}
use Rattle.alphabet.proofs.Sizes.{sized}
use Rattle.alphabet.specs.Codes.{code_on}
use Rattle.alphabet.specs.declared.Alphabet.{Alphabet}
use Rattle.crossing.proofs.Narrow.{refused_narrow, counted_narrow, costed_narrow, planned_narrow, told_narrow, narrow, at_none, at_first, at_later, at_bad_column, so_refused, Few, few_narrow, few_places, found_narrow}
use Rattle.crossing.specs.Crossing.{Narrow}
use Rattle.definitions.proofs.Bound.{bound_le}
use Rattle.definitions.proofs.Editing.{position_means, stored_means, length_added, out_of_two, out_of_three}
use Rattle.definitions.proofs.Held.{cost_none, cost_filled, length_cleared, cost_bytes}
use Rattle.definitions.proofs.Loops.{row_within}
use Rattle.definitions.proofs.Table.{last, or, whatever, sizes_mean, size_means, limit_means, degree_means, entries_mean, above_means, cost_means}
use Rattle.definitions.specs.Answers.{Answer, refused, valued, costed, Interpolated}
use Rattle.definitions.specs.Bound.{count, bound}
use Rattle.definitions.specs.Editing.{lowest_above, in_or_out, lent_table, lent_fresh_answer, lent_bytes_table, lent_bytes_answer, set_table, set_answer}
use Rattle.definitions.specs.Editing.{clear_table, clear_answer, add_table, add_answer, held_cost_table, held_cost_answer, held_interpolation_table}
use Rattle.definitions.specs.Editing.{HeldInterpolationAnswers, held_list_table, held_list_answer}
use Rattle.definitions.specs.Field.{Code}
use Rattle.definitions.specs.Held.{Held, places, no_entries, filled, bytes_of, with_entry, without_column, with_added}
use Rattle.definitions.specs.Limits.{greatest_level}
use Rattle.definitions.specs.Listing.{list_of}
use Rattle.definitions.specs.Planning.{steps_done, planned, held_check_table, held_check_answer, held_plan_list_table, held_plan_list_answer}
use Rattle.definitions.specs.Proposals.{is_yes, held_proposal_table, held_proposal_answer, held_proposal_list_table, held_proposal_list_answer}
use Rattle.definitions.specs.Weights.{cost}
use Rattle.matrix.proofs.Columns.{places_within, cost_small}
use Rattle.plans.proofs.Planning.{done_within}
use Rattle.plans.proofs.Taken.{steps_mean}

module _ (w : Alphabet) where
  abbrev C : Code
  C = code_on w

  -- a refusal at the lowest place of an entry above 5
  at_lowest : (es : List (List ℕ)) → (in_or_out C es).given ≡ true → Narrow (refused 5 (lowest_above C es))
  at_lowest es e = refused_narrow 5 (lowest_above C es) (let most = places_within w in let bad = ltb-true (lowest_above C es) (places C) e in omega arith)

  -- the cost of a matrix without an entry above 5
  priced_narrow : (e : List ℕ) → length e ≡ places C → ((j : ℕ) → get_or e j 0 ≤ greatest_level) → Narrow (costed (cost e) 0)
  priced_narrow e full low = costed_narrow (cost e) 0 (let most = places_within w in let small = cost_small C e (omega arith) low in omega arith) (omega arith)

  pub fresh_narrow : (n : ℕ) (totals e : List ℕ) → Narrow (lent_fresh_answer C n totals e)
  fresh_narrow n totals e =
      narrow (costed (cost (no_entries C)) 0) (lent_table C n totals e)
      (or (λ _. at_none) (λ _. or (λ _. at_none) (λ _. or (λ _. at_none) (λ _.
      last (costed_narrow (cost (no_entries C)) 0 (let none = cost_none C in omega arith) (omega arith))))))

  pub bytes_narrow : (n : ℕ) (m totals e : List ℕ) → Narrow (lent_bytes_answer C n m totals e)
  bytes_narrow n m totals e =
      let most = places_within w in
      narrow (costed (cost (filled C m)) 0) (lent_bytes_table C n m totals e)
      (or (λ _. at_none) (λ s.
      let fits = size_means C n s in
      let few = few_places C n fits.1 in
      or (λ _. at_none) (λ _. or (λ _. at_none) (λ _. or (λ _. at_none) (λ l.
      let full = entries_mean (C.symbols * n) m l in
      or (at_first greatest_level m (omega arith)) (λ a.
      let whole = cost_filled C m (omega arith) in
      let small = cost_small C m (omega arith) (above_means greatest_level m a) in
      last (costed_narrow (cost (filled C m)) 0 (omega arith) (omega arith))))))))

  module _ (h : Held) where
    pub set_narrow : (i b x : ℕ) → Narrow (set_answer C h i b x)
    set_narrow i b x =
        let e = with_entry C h.entries i b x in
        narrow (costed (cost e) 0) (set_table C h i b x)
        (or (λ _. at_none) (λ _. or (λ _. at_none) (λ _. or (λ _. at_none) (λ _. or (λ _. at_none) (λ t.
        let full = length-set h.entries (C.symbols * i + b) x ∙ (stored_means C h t).full in
        or (at_lowest (h.entries ∷ e ∷ [])) (λ a. last (priced_narrow e full (out_of_two C h.entries e full a))))))))

    pub clear_narrow : (i : ℕ) → Narrow (clear_answer C h i)
    clear_narrow i =
        let e = without_column C h.entries i in
        narrow (costed (cost e) 0) (clear_table C h i)
        (or (λ _. at_none) (λ s. or (λ _. at_none) (λ p. or (λ _. at_none) (λ t.
        let n = size_means C h.n s in
        let at = position_means h.n i p in
        let within = row_within C.symbols i C.positions (places C) (omega arith) (omega arith) in
        let all = (stored_means C h t).full in
        let full = length_cleared C h.entries i (omega arith) ∙ all in
        or (at_lowest (h.entries ∷ e ∷ [])) (λ a. last (priced_narrow e full (out_of_two C h.entries e full a)))))))

    pub add_narrow : (o : Held) → Narrow (add_answer C h o)
    add_narrow o =
        let e = with_added h.entries o.entries in
        narrow (costed (cost e) 0) (add_table C h o)
        (or (λ _. at_none) (λ _. or (λ _. at_none) (λ _. or (λ _. at_none) (λ t. or (λ _. at_none) (λ _.
        let full = length_added h.entries o.entries ∙ (stored_means C h t).full in
        or (at_lowest (h.entries ∷ o.entries ∷ e ∷ [])) (λ a. last (priced_narrow e full (out_of_three C h.entries o.entries e full a))))))))

    pub held_cost_narrow : (k : ℕ) → Narrow (held_cost_answer C h k)
    held_cost_narrow k =
        let most = places_within w in
        let m = bytes_of C h in
        narrow (costed (cost m) (bound (k - 1) (cost m))) (held_cost_table C h k)
        (or (λ _. at_none) (λ s. or (λ _. at_none) (λ t.
        let fits = sizes_mean C h.n k s in
        let r = stored_means C h t in
        let full = r.full in
        or (at_first greatest_level h.entries (omega arith)) (λ a.
        let small = cost_small C h.entries (omega arith) (above_means greatest_level h.entries a) in
        let whole = sym r.cost_is ∙ cost_bytes C h r fits.2 in
        let degree = bound_le (k - 1) (omega arith) (cost m) in
        last (costed_narrow (cost m) (bound (k - 1) (cost m)) (omega arith) (omega arith))))))

    pub held_interpolation_narrow : (k G : ℕ) (out : List ℕ) (answer : Answer) (after : List ℕ) → HeldInterpolationAnswers C h k G out answer after → Narrow answer
    held_interpolation_narrow k G out answer after =
        let most = places_within w in
        let m = bytes_of C h in
        whatever (λ (X : Type 0). X → Narrow answer) (λ number place. (answer ≡ refused number place) × (after ≡ out)) (Interpolated C h.n k m out answer after)
        (held_interpolation_table C h k G (length out))
        (or (λ _. so_refused at_none) (λ s.
        let fits = sizes_mean C h.n k s in
        or (λ _. so_refused at_none) (λ g. or (λ _. so_refused at_none) (λ t.
        let full = (stored_means C h t).full in
        or (λ _. so_refused at_none) (λ _. or (λ e. so_refused (at_first greatest_level h.entries (omega arith) e)) (λ _. or (λ _. so_refused at_none) (λ c.
        last (found_narrow C h.n k G m out answer after fits.0 (limit_means G g) (cost_means G m c)))))))))

    pub held_list_narrow : (k G : ℕ) (rows scores : List ℕ) → Few (held_list_answer C h k G rows scores)
    held_list_narrow k G rows scores =
        let most = places_within w in
        few_narrow (length (list_of C h.n k (bytes_of C h))) (held_list_table C h k G (length rows) (length scores))
        (or (λ _ _. at_none) (λ _. or (λ _ _. at_none) (λ _. or (λ _ _. at_none) (λ t.
        let full = (stored_means C h t).full in
        or (λ _ _. at_none) (λ _. or (λ _ _. at_none) (λ _. or (λ e _. at_first greatest_level h.entries (omega arith) e) (λ _. or (λ _ _. at_none) (λ _.
        last (λ few. counted_narrow (length (list_of C h.n k (bytes_of C h))) (omega arith))))))))))

    pub held_check_narrow : (s : ℕ) (r : List ℕ) → Narrow (held_check_answer C h s r)
    held_check_narrow s r =
        let size = sized w in
        let most = places_within w in
        let done = done_within r s in
        narrow (planned 0 (steps_done r s)) (held_check_table C h s r)
        (or (λ _. at_none) (λ z.
        let fits = size_means C h.n z in
        or (λ _. at_none) (λ t.
        let few = steps_mean s t in
        or (λ _. at_none) (λ _. or (λ _. at_none) (λ l.
        let full = (stored_means C h l).full in
        or (at_first greatest_level h.entries (omega arith)) (λ _. or (at_bad_column C h.n r (omega arith)) (λ _. or (λ _. at_none) (λ _.
        last (planned_narrow 0 (steps_done r s) (omega arith) (omega arith))))))))))

    pub held_plan_list_narrow : (k G s : ℕ) (r rows scores : List ℕ) → Few (held_plan_list_answer C h k G s r rows scores)
    held_plan_list_narrow k G s r rows scores =
        let size = sized w in
        let most = places_within w in
        few_narrow (length (list_of C h.n k (bytes_of C h))) (held_plan_list_table C h k G s r (length rows) (length scores))
        (or (λ _ _. at_none) (λ z.
        let fits = sizes_mean C h.n k z in
        or (λ _ _. at_none) (λ _. or (λ _ _. at_none) (λ _. or (λ _ _. at_none) (λ _. or (λ _ _. at_none) (λ l.
        let full = (stored_means C h l).full in
        or (λ _ _. at_none) (λ _. or (λ _ _. at_none) (λ _. or (λ e _. at_first greatest_level h.entries (omega arith) e) (λ _.
        or (λ e _. at_bad_column C h.n r (omega arith) e) (λ _. or (λ _ _. at_none) (λ _. or (λ _ _. at_none) (λ _.
        last (λ few. counted_narrow (length (list_of C h.n k (bytes_of C h))) (omega arith))))))))))))))

    pub held_proposal_narrow : (k D : ℕ) (q : List ℕ) → Narrow (held_proposal_answer C h k D q)
    held_proposal_narrow k D q =
        let size = sized w in
        let most = places_within w in
        narrow (valued (cond (is_yes C h.n (k - 1) D (bytes_of C h) q) 1 0)) (held_proposal_table C h k D q)
        (or (λ _. at_none) (λ z.
        let fits = sizes_mean C h.n k z in
        let columns = few_places C h.n fits.2 in
        or (λ _. at_none) (λ d.
        let few = degree_means (k - 1) D d in
        or (λ _. at_none) (λ f.
        let stated = entries_mean (count (k - 1) D) q f in
        or (λ _. at_none) (λ l.
        let full = (stored_means C h l).full in
        or (at_first greatest_level h.entries (omega arith)) (λ _. or (at_later (C.symbols * h.n) (C.symbols - 1) q (omega arith)) (λ _.
        last (told_narrow (is_yes C h.n (k - 1) D (bytes_of C h) q)))))))))

    pub held_proposal_list_narrow : (k G D : ℕ) (q rows scores : List ℕ) → Few (held_proposal_list_answer C h k G D q rows scores)
    held_proposal_list_narrow k G D q rows scores =
        let size = sized w in
        let most = places_within w in
        few_narrow (length (list_of C h.n k (bytes_of C h))) (held_proposal_list_table C h k G D q (length rows) (length scores))
        (or (λ _ _. at_none) (λ z.
        let fits = sizes_mean C h.n k z in
        let columns = few_places C h.n fits.2 in
        or (λ _ _. at_none) (λ _. or (λ _ _. at_none) (λ d.
        let few = degree_means (k - 1) D d in
        or (λ _ _. at_none) (λ f.
        let stated = entries_mean (count (k - 1) D) q f in
        or (λ _ _. at_none) (λ l.
        let full = (stored_means C h l).full in
        or (λ _ _. at_none) (λ _. or (λ _ _. at_none) (λ _. or (λ e _. at_first greatest_level h.entries (omega arith) e) (λ _.
        or (λ e _. at_later (C.symbols * h.n) (C.symbols - 1) q (omega arith) e) (λ _. or (λ _ _. at_none) (λ _. or (λ _ _. at_none) (λ _. or (λ _ _. at_none) (λ _.
        last (λ few. counted_narrow (length (list_of C h.n k (bytes_of C h))) (omega arith)))))))))))))))
