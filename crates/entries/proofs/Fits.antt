-- Every number that an entry answers fits sixteen bits.
-- Assumes nothing.
use mathlib.Core.List.{List, [], ◌∷◌}
use mathlib.Core.Path.{◌≡◌}
use Prim.Native.Nat.{ℕ, ◌*◌, ◌-◌, ◌<◌}
use native.Mathlib.Nat.{div-le_self}
use native.Mathlib.Omega.{arith}
use lib.Dec.{eqb}
use lib.ListN.{length}
use Rattle.alphabet.proofs.Sizes.{sized}
use Rattle.alphabet.specs.Codes.{code_on}
use Rattle.alphabet.specs.declared.Alphabet.{Alphabet}
use Rattle.algebra.proofs.Elements.{plus_symbol, times_symbol}
use Rattle.crossing.proofs.Narrow.{valued_narrow, counted_narrow, costed_narrow, narrow, at_none, at_first, at_bad_column, so_refused, Few, few_narrow, few_places, found_narrow}
use Rattle.crossing.specs.Crossing.{Narrow}
use Rattle.definitions.proofs.Bound.{bound_le, count_above}
use Rattle.definitions.proofs.Table.{last, or, whatever, sizes_mean, size_means, limit_means, degree_means, entries_mean, above_means, cost_means}
use Rattle.definitions.proofs.Tools.{smallest_le}
use Rattle.definitions.specs.Answers.{Answer, refused, valued, counted, costed, sum_answer, product_answer, inverse_answer, encode_answer}
use Rattle.definitions.specs.Answers.{multiplicities_answer, cost_answer, Interpolated, InterpolationAnswers, roots_answer, list_answer}
use Rattle.definitions.specs.Answers.{read_answer}
use Rattle.definitions.specs.Bound.{count, bound}
use Rattle.definitions.specs.Field.{Code, inverse_of}
use Rattle.definitions.specs.Limits.{greatest_level}
use Rattle.definitions.specs.Listing.{list_of}
use Rattle.definitions.specs.Refusals.{tried, field_table, inverse_table, encode_table}
use Rattle.definitions.specs.Refusals.{multiplicities_table, cost_table, interpolation_table, roots_table, list_table, read_table}
use Rattle.definitions.specs.Roots.{roots_of}
use Rattle.definitions.specs.Weights.{matrix, cost}
use Rattle.instances.proofs.Codes.{field_on}
use Rattle.root_tree.proofs.Roots.{roots_at_most}
use Rattle.matrix.proofs.Columns.{places_within, cost_small}

module _ (w : Alphabet) where
  abbrev C : Code
  C = code_on w

  module _ (a b : ℕ) where
    -- one of two is no symbol, or both are
    field_narrow : (x : ℕ) → (a < C.symbols → b < C.symbols → x < C.symbols) → Narrow (tried (field_table C a b) refused (valued x))
    field_narrow x small =
        let size = sized w in
        narrow (valued x) (field_table C a b) (or (at_first (C.symbols - 1) (a ∷ b ∷ []) (omega arith)) (λ e.
        let none = above_means (C.symbols - 1) (a ∷ b ∷ []) e in
        let ha = none 0 in
        let hb = none 1 in
        let h : x < C.symbols = small (omega arith) (omega arith) in
        last (valued_narrow x (omega arith))))

    pub sum_narrow : Narrow (sum_answer C a b)
    sum_narrow = field_narrow (C.plus a b) (plus_symbol C (field_on w) a b)

    pub product_narrow : Narrow (product_answer C a b)
    product_narrow = field_narrow (C.times a b) (times_symbol C (field_on w) a b)

  pub inverse_narrow : (a : ℕ) → Narrow (inverse_answer C a)
  inverse_narrow a =
      let size = sized w in
      let small = smallest_le (λ (b : ℕ). eqb (C.times a b) 1) C.symbols in
      narrow (valued (inverse_of C a)) (inverse_table C a)
      (or (at_first (C.symbols - 1) (a ∷ []) (omega arith)) (λ _. or (λ _. at_none) (λ _. last (valued_narrow (inverse_of C a) (omega arith)))))

  pub encode_narrow : (n k : ℕ) (f out : List ℕ) → Narrow (encode_answer C n k f out)
  encode_narrow n k f out =
      let size = sized w in
      narrow (counted n) (encode_table C n k f (length out)) (or (λ _. at_none) (λ s.
      let fits = sizes_mean C n k s in
      or (λ _. at_none) (λ l.
      let full = entries_mean k f l in
      or (λ _. at_none) (λ _. or (at_first (C.symbols - 1) f (omega arith)) (λ _. last (counted_narrow n (omega arith)))))))

  pub multiplicities_narrow : (n L : ℕ) (r out : List ℕ) → Narrow (multiplicities_answer C n L r out)
  multiplicities_narrow n L r out =
      let most = places_within w in
      let size = sized w in
      narrow (counted (C.symbols * n)) (multiplicities_table C n L r (length out)) (or (λ _. at_none) (λ s.
      let fits = size_means C n s in
      let few = few_places C n fits.1 in
      or (λ _. at_none) (λ _. or (λ _. at_none) (λ _. or (λ _. at_none) (λ _. or
      (at_bad_column C n r (omega arith))
      (λ _. last (counted_narrow (C.symbols * n) (omega arith))))))))

  pub cost_narrow : (n k : ℕ) (m : List ℕ) → Narrow (cost_answer C n k m)
  cost_narrow n k m =
      let most = places_within w in
      narrow (costed (cost m) (bound (k - 1) (cost m))) (cost_table C n k m) (or (λ _. at_none) (λ s.
      let fits = sizes_mean C n k s in
      let few = few_places C n fits.2 in
      or (λ _. at_none) (λ l.
      let full = entries_mean (C.symbols * n) m l in
      or (at_first greatest_level m (omega arith)) (λ e.
      let none = above_means greatest_level m e in
      let small = cost_small C m (omega arith) none in
      let degree = bound_le (k - 1) (omega arith) (cost m) in
      last (costed_narrow (cost m) (bound (k - 1) (cost m)) (omega arith) (omega arith))))))

  -- an answer that interpolation's promise allows
  pub interpolation_narrow : (n k G : ℕ) (m out : List ℕ) (answer : Answer) (after : List ℕ) → InterpolationAnswers C n k G m out answer after → Narrow answer
  interpolation_narrow n k G m out answer after =
      let most = places_within w in
      whatever (λ (X : Type 0). X → Narrow answer) (λ number place. (answer ≡ refused number place) × (after ≡ out)) (Interpolated C n k m out answer after)
      (interpolation_table C n k G m (length out))
      (or (λ _. so_refused at_none) (λ s.
      let fits = sizes_mean C n k s in
      let few = few_places C n fits.2 in
      or (λ _. so_refused at_none) (λ g. or (λ _. so_refused at_none) (λ l.
      let full = entries_mean (C.symbols * n) m l in
      or (λ _. so_refused at_none) (λ _. or (λ e. so_refused (at_first greatest_level m (omega arith) e)) (λ _. or (λ _. so_refused at_none) (λ c.
      last (found_narrow C n k G m out answer after fits.0 (limit_means G g) (cost_means G m c)))))))))

  pub roots_narrow : (D k : ℕ) (q out : List ℕ) → Narrow (roots_answer C D k q out)
  roots_narrow D k q out =
      let size = sized w in
      narrow (counted (length (roots_of C D k q))) (roots_table C D k q (length out)) (or (λ _. at_none) (λ s.
      let fits = size_means C k s in
      or (λ _. at_none) (λ d.
      let few = degree_means (k - 1) D d in
      or (λ _. at_none) (λ l.
      let full = entries_mean (count (k - 1) D) q l in
      or (λ _. at_none) (λ _. or (at_first (C.symbols - 1) q (omega arith)) (λ e.
      let none = above_means (C.symbols - 1) q e in
      or (λ _. at_none) (λ z.
      let most = roots_at_most C (field_on w) k D fits.0 q (λ j. let h = none j in omega arith) (omega arith) z in
      let degree = count_above (k - 1) (omega arith) D in
      let part = div-le_self D (k - 1) in
      last (counted_narrow (length (roots_of C D k q)) (omega arith)))))))))

  pub list_narrow : (n k G : ℕ) (m rows scores : List ℕ) → Few (list_answer C n k G m rows scores)
  list_narrow n k G m rows scores =
      let most = places_within w in
      few_narrow (length (list_of C n k m)) (list_table C n k G m (length rows) (length scores)) (or (λ _ _. at_none) (λ s.
      let fits = sizes_mean C n k s in
      let few = few_places C n fits.2 in
      or (λ _ _. at_none) (λ _. or (λ _ _. at_none) (λ l.
      let full = entries_mean (C.symbols * n) m l in
      or (λ _ _. at_none) (λ _. or (λ _ _. at_none) (λ _. or (λ e _. at_first greatest_level m (omega arith) e) (λ _. or (λ _ _. at_none) (λ _.
      last (λ few. counted_narrow (length (list_of C n k m)) (omega arith))))))))))

  pub read_narrow : (n k L G : ℕ) (r rows scores : List ℕ) → Few (read_answer C n k L G r rows scores)
  read_narrow n k L G r rows scores =
      let size = sized w in
      few_narrow (length (list_of C n k (matrix L r))) (read_table C n k L G r (length rows) (length scores)) (or (λ _ _. at_none) (λ s.
      let fits = sizes_mean C n k s in
      or (λ _ _. at_none) (λ _. or (λ _ _. at_none) (λ _. or (λ _ _. at_none) (λ _. or (λ _ _. at_none) (λ _. or (λ _ _. at_none) (λ _. or
      (λ e _. at_bad_column C n r (omega arith) e) (λ _. or (λ _ _. at_none) (λ _.
      last (λ few. counted_narrow (length (list_of C n k (matrix L r))) (omega arith)))))))))))
