-- Every number that the check of a proposal and its list answer fits sixteen bits.
-- Assumes nothing.
use mathlib.Core.Bool.{cond}
use mathlib.Core.List.{List}
use Prim.Native.Nat.{ℕ, ◌*◌, ◌-◌}
use native.Mathlib.Omega.{arith}
use lib.ListN.{length}
use Rattle.alphabet.proofs.Sizes.{sized}
use Rattle.alphabet.specs.Codes.{code_on}
use Rattle.alphabet.specs.declared.Alphabet.{Alphabet}
use Rattle.crossing.proofs.Narrow.{counted_narrow, told_narrow, narrow, at_none, at_first, at_later, Few, few_narrow, few_places}
use Rattle.crossing.specs.Crossing.{Narrow}
use Rattle.definitions.proofs.Table.{last, or, sizes_mean, degree_means, entries_mean}
use Rattle.definitions.specs.Answers.{valued}
use Rattle.definitions.specs.Bound.{count}
use Rattle.definitions.specs.Field.{Code}
use Rattle.definitions.specs.Limits.{greatest_level}
use Rattle.definitions.specs.Listing.{list_of}
use Rattle.definitions.specs.Proposals.{is_yes, proposal_table, proposal_answer, proposal_list_table, proposal_list_answer}
use Rattle.matrix.proofs.Columns.{places_within}

module _ (w : Alphabet) where
  abbrev C : Code
  C = code_on w

  pub proposal_narrow : (n k D : ℕ) (m q : List ℕ) → Narrow (proposal_answer C n k D m q)
  proposal_narrow n k D m q =
      let size = sized w in
      let most = places_within w in
      narrow (valued (cond (is_yes C n (k - 1) D m q) 1 0)) (proposal_table C n k D m q)
      (or (λ _. at_none) (λ z.
      let fits = sizes_mean C n k z in
      let columns = few_places C n fits.2 in
      or (λ _. at_none) (λ d.
      let few = degree_means (k - 1) D d in
      or (λ _. at_none) (λ f.
      let stated = entries_mean (count (k - 1) D) q f in
      or (λ _. at_none) (λ l.
      let full = entries_mean (C.symbols * n) m l in
      or (at_first greatest_level m (omega arith)) (λ _. or (at_later (C.symbols * n) (C.symbols - 1) q (omega arith)) (λ _.
      last (told_narrow (is_yes C n (k - 1) D m q)))))))))

  pub proposal_list_narrow : (n k G D : ℕ) (m q rows scores : List ℕ) → Few (proposal_list_answer C n k G D m q rows scores)
  proposal_list_narrow n k G D m q rows scores =
      let size = sized w in
      let most = places_within w in
      few_narrow (length (list_of C n k m)) (proposal_list_table C n k G D m q (length rows) (length scores))
      (or (λ _ _. at_none) (λ z.
      let fits = sizes_mean C n k z in
      let columns = few_places C n fits.2 in
      or (λ _ _. at_none) (λ _. or (λ _ _. at_none) (λ d.
      let few = degree_means (k - 1) D d in
      or (λ _ _. at_none) (λ f.
      let stated = entries_mean (count (k - 1) D) q f in
      or (λ _ _. at_none) (λ l.
      let full = entries_mean (C.symbols * n) m l in
      or (λ _ _. at_none) (λ _. or (λ _ _. at_none) (λ _. or (λ e _. at_first greatest_level m (omega arith) e) (λ _.
      or (λ e _. at_later (C.symbols * n) (C.symbols - 1) q (omega arith) e) (λ _. or (λ _ _. at_none) (λ _. or (λ _ _. at_none) (λ _. or (λ _ _. at_none) (λ _.
      last (λ few. counted_narrow (length (list_of C n k m)) (omega arith)))))))))))))))
