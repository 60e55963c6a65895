-- Every number that the planner and the list of a plan answer fits sixteen bits.
-- Assumes nothing.
use mathlib.Core.List.{List}
use Prim.Native.Nat.{ℕ, ◌*◌}
use native.Mathlib.Omega.{arith}
use lib.ListN.{length}
use Rattle.alphabet.proofs.Sizes.{sized}
use Rattle.alphabet.specs.Codes.{code_on}
use Rattle.alphabet.specs.declared.Alphabet.{Alphabet}
use Rattle.crossing.proofs.Narrow.{counted_narrow, planned_narrow, narrow, at_none, at_first, at_bad_column, Few, few_narrow, few_places}
use Rattle.crossing.specs.Crossing.{Narrow}
use Rattle.definitions.proofs.Table.{last, or, sizes_mean, size_means, entries_mean}
use Rattle.definitions.specs.Field.{Code}
use Rattle.definitions.specs.Limits.{greatest_level}
use Rattle.definitions.specs.Listing.{list_of}
use Rattle.definitions.specs.Planning.{steps_done, planned, plan_table, plan_answer, check_table, check_answer, plan_list_table, plan_list_answer}
use Rattle.matrix.proofs.Columns.{places_within}
use Rattle.plans.proofs.Planning.{done_within}
use Rattle.plans.proofs.Taken.{steps_mean}

module _ (w : Alphabet) where
  abbrev C : Code
  C = code_on w

  pub plan_narrow : (n s : ℕ) (r out : List ℕ) → Narrow (plan_answer C n s r out)
  plan_narrow n s r out =
      let size = sized w in
      let most = places_within w in
      let done = done_within r s in
      narrow (planned (C.symbols * n) (steps_done r s)) (plan_table C n s r (length out))
      (or (λ _. at_none) (λ z.
      let fits = size_means C n z in
      let columns = few_places C n fits.1 in
      or (λ _. at_none) (λ t.
      let few = steps_mean s t in
      or (λ _. at_none) (λ _. or (λ _. at_none) (λ _. or (at_bad_column C n r (omega arith)) (λ _.
      last (planned_narrow (C.symbols * n) (steps_done r s) (omega arith) (omega arith))))))))

  pub check_narrow : (n s : ℕ) (r m : List ℕ) → Narrow (check_answer C n s r m)
  check_narrow n s r m =
      let size = sized w in
      let most = places_within w in
      let done = done_within r s in
      narrow (planned 0 (steps_done r s)) (check_table C n s r m)
      (or (λ _. at_none) (λ z.
      let fits = size_means C n z in
      let columns = few_places C n fits.1 in
      or (λ _. at_none) (λ t.
      let few = steps_mean s t in
      or (λ _. at_none) (λ _. or (λ _. at_none) (λ l.
      let full = entries_mean (C.symbols * n) m l in
      or (at_first greatest_level m (omega arith)) (λ _. or (at_bad_column C n r (omega arith)) (λ _. or (λ _. at_none) (λ _.
      last (planned_narrow 0 (steps_done r s) (omega arith) (omega arith))))))))))

  pub plan_list_narrow : (n k G s : ℕ) (r m rows scores : List ℕ) → Few (plan_list_answer C n k G s r m rows scores)
  plan_list_narrow n k G s r m rows scores =
      let size = sized w in
      let most = places_within w in
      few_narrow (length (list_of C n k m)) (plan_list_table C n k G s r m (length rows) (length scores))
      (or (λ _ _. at_none) (λ z.
      let fits = sizes_mean C n k z in
      let columns = few_places C n fits.2 in
      or (λ _ _. at_none) (λ _. or (λ _ _. at_none) (λ _. or (λ _ _. at_none) (λ _. or (λ _ _. at_none) (λ l.
      let full = entries_mean (C.symbols * n) m l in
      or (λ _ _. at_none) (λ _. or (λ _ _. at_none) (λ _. or (λ e _. at_first greatest_level m (omega arith) e) (λ _.
      or (λ e _. at_bad_column C n r (omega arith) e) (λ _. or (λ _ _. at_none) (λ _. or (λ _ _. at_none) (λ _.
      last (λ few. counted_narrow (length (list_of C n k m)) (omega arith))))))))))))))
