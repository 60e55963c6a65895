-- What the desk can rely on holds over any code that carries a field, so of sixteen symbols.
-- Assumes nothing.
use mathlib.Core.Bool.{cond}
use mathlib.Core.List.{List, [], ◌∷◌, ◌++◌}
use mathlib.Core.Logic.{⊎_elim}
use mathlib.Core.Path.{◌≡◌, refl, sym, ◌∙◌, ap, ap₂, subst}
use Prim.Native.Nat.{ℕ, zero, suc, ◌+◌, ◌-◌, ◌*◌, ◌≤◌, ◌<◌}
use native.Mathlib.Nat.{le_of_suc-le-suc, not-suc-le-zero, mul-le-mul}
use native.Mathlib.Omega.{arith}
use borrow.Author.Tests.{lt-ltb}
use lib.Dec.{eqb, ltb}
use lib.ListN.{length, get_or, drop}
use Rattle.algebra.proofs.Elements.{zero_symbol}
use Rattle.algebra.proofs.Score.{score_above_degree_is_root}
use Rattle.algebra.specs.FieldOf.{FieldOf}
use Rattle.audit.proofs.Clean.{clean_alone, clean_score, clean_cost, word_taken}
use Rattle.audit.proofs.Distance.{stands_first}
use Rattle.audit.proofs.Factors.{root_is_factor, factor_is_root}
use Rattle.audit.proofs.Few.{few_above, few_listed}
use Rattle.audit.proofs.Marks.{read, read_and_erased, cost_of_marks}
use Rattle.audit.proofs.Smallest.{monomials_begin, smallest_of_all}
use Rattle.audit.specs.Desk.{Sizes, Earlier, Exactly, Clean, Answered, Desk, DeskOfSixteen}
use Rattle.audit.specs.Marks.{weights_of, matrix_of, erased, wrong}
use Rattle.audit.specs.Words.{Message, differing}
use Rattle.definitions.proofs.Above.{Precedes, above_in_order}
use Rattle.definitions.proofs.Bound.{bound_is_least}
use Rattle.definitions.proofs.Codeword.{length_codeword}
use Rattle.definitions.proofs.Joined.{flatten_one}
use Rattle.definitions.proofs.Messages.{Before}
use Rattle.definitions.proofs.Ordered.{ordered_at}
use Rattle.definitions.proofs.Sums.{sum_of_zeros}
use Rattle.definitions.proofs.Table.{Accepts, accepts}
use Rattle.definitions.proofs.Tools.{sum_ext}
use Rattle.definitions.specs.Answers.{refused, counted, rows_onto, scores_onto}
use Rattle.definitions.specs.Bound.{bound}
use Rattle.definitions.specs.Code.{Symbols, codeword}
use Rattle.definitions.specs.Field.{Code, sixteen}
use Rattle.definitions.specs.Limits.{greatest_level, greatest_limit}
use Rattle.definitions.specs.Listing.{list_of}
use Rattle.definitions.specs.Refusals.{read_table}
use Rattle.definitions.specs.Weights.{entry_cost, cost, score}
use Rattle.instances.proofs.Codes.{sixteen_field}

-- a message before another: where they first differ
earlier : (f g : List ℕ) → Before f g → Earlier f g
earlier [] g b = absurd b
earlier (a ∷ f) [] b = absurd b
earlier (a ∷ f) (c ∷ g) b = ⊎_elim
    (λ h. record { place = 0; alike = λ j l. absurd (not-suc-le-zero l); smaller = h })
    (λ h. behind h.0 (earlier f g h.1))
    b
  where
    behind : a ≡ c → Earlier f g → Earlier (a ∷ f) (c ∷ g)
    behind e r = record { place = suc r.place; alike = both; smaller = r.smaller }
      where
        both : (j : ℕ) → j < suc r.place → get_or (a ∷ f) j 0 ≡ get_or (c ∷ g) j 0
        both zero l = e
        both (suc j) l = r.alike j (le_of_suc-le-suc l)

module _ (C : Code) (F : FieldOf C) where
  exactly : (n k : ℕ) (m : List ℕ) → Sizes C n k → length m ≡ C.symbols * n → Exactly C n k m
  exactly n k m sizes size =
      let t = bound (k - 1) (cost m) in
      let all = above_in_order C (zero_symbol C F) n k m t in
      let s = sizes in
      record {
        every = λ f mf high. all.each f mf.0 mf.1 high;
        only = λ f row. ((all.sized f row, all.symbols f row), all.greater f row);
        once = all.once;
        falling = λ i j h l. (ordered_at (Precedes (score C n m)) (list_of C n k m) all.ordered [] i j h l).0;
        ties = λ i j h l e. earlier (get_or (list_of C n k m) i []) (get_or (list_of C n k m) j [])
            ((ordered_at (Precedes (score C n m)) (list_of C n k m) all.ordered [] i j h l).1 e);
        few = few_above C F n k sizes.2 m size t (bound_is_least (k - 1) (omega arith) (cost m)).0;
        room = few_listed C F n k sizes.2 m size sizes.0;
        roots = λ f row D q within sq through. score_above_degree_is_root C F n (k - 1) D m q f sizes.2 sq through (all.symbols f row)
            (let e = all.sized f row in omega arith) (let h = all.greater f row in omega arith);
      }

  clean : (n k L : ℕ) (f : List ℕ) → Sizes C n k → 1 ≤ L → Message C k f → Clean C n k L f
  clean n k L f sizes level mf =
      record { alone = clean_alone C F n k L f sizes level mf; full = clean_score C F n k L f sizes level mf; price = clean_cost C F n k L f sizes level mf }

  -- where every mark is read, those that differ are wrong, and none is erased
  all_read : (n : ℕ) (c word : List ℕ) → Symbols C word → (wrong C n word c ≡ differing n word c) × (erased C n word ≡ 0)
  all_read n c word symbols = (
    sum_ext n (λ (i : ℕ). cond (ltb (get_or word i 0) C.symbols) (cond (eqb (get_or word i 0) (get_or c i 0)) 0 1) 0)
        (λ (i : ℕ). cond (eqb (get_or word i 0) (get_or c i 0)) 0 1) (λ i _. rw (lt-ltb (get_or word i 0) C.symbols (symbols i)) refl),
    sum_of_zeros n (λ (i : ℕ). cond (ltb (get_or word i 0) C.symbols) 0 1) (λ i. rw (lt-ltb (get_or word i 0) C.symbols (symbols i)) refl),
  )

  -- what the lines of the table say of a tag that reads one word
  module _ (n k L G : ℕ) (word rows scores : List ℕ) where
    abbrev m : List ℕ
    m = matrix_of C L word

    answered : Accepts (read_table C n k L G (weights_of C word) (length rows) (length scores)) → Answered C n k L G word rows scores (list_of C n k m)
    answered taken = record {
      answer = sym (accepts refused (counted (length (list_of C n k m))) taken);
      rows_are = sym (accepts (λ _ _. rows) (rows_onto k (list_of C n k m) rows) taken);
      scores_are = sym (accepts (λ _ _. scores) (scores_onto C n m (list_of C n k m) scores) taken);
    }

    answered_alone : (f : List ℕ) → list_of C n k m ≡ f ∷ [] → Answered C n k L G word rows scores (list_of C n k m) → Answered C n k L G word rows scores (f ∷ [])
    answered_alone f alone = subst (Answered C n k L G word rows scores) alone

  pub desk : Desk C
  desk = record {
    exactly = exactly;
    clean = clean;
    worn = λ n k L f word sizes level mf size few. stands_first C F n k L f word sizes level mf size few;
    half = λ n k L f word sizes level mf mw few.
        (let marks = all_read n (codeword C n f) word mw.1 in
        let wrongs = marks.0 in
        let none = marks.1 in
        stands_first C F n k L f word sizes level mf mw.0 (omega arith));
    answered = λ n k L G word rows scores sizes level limit size rows_room scores_room price.
        answered n k L G word rows scores (word_taken C n word size k L G (length rows) (length scores) sizes level limit rows_room scores_room price);
    clean_answered = λ n k L G f rows scores sizes level limit mf rows_room scores_room price.
        (let its = clean n k L f sizes level.0 mf in
        let c = codeword C n f in
        let within = its.price in
        let one : k * 1 ≡ k = omega arith in
        let told = answered_alone n k L G c rows scores f its.alone
        (answered n k L G c rows scores (word_taken C n c (length_codeword C f n) k L G (length rows) (length scores) sizes level limit rows_room scores_room (omega arith))) in (
          told.answer,
          told.rows_are ∙ ap₂ (λ (l : List ℕ) (j : ℕ). l ++ drop j rows) (flatten_one f) one,
          told.scores_are ∙ ap (λ (s : ℕ). s ∷ drop 1 scores) its.full,
        ));
    root_is_factor = root_is_factor C F;
    factor_is_root = factor_is_root C F;
    begins = λ v D E pos h. monomials_begin v pos D E h;
    smallest = λ n v D E m q p pos ours size sp through some. smallest_of_all C F v pos n D E m q p ours size sp through some;
  }

-- fifteen marks of five each cost 225
affordable : (n L : ℕ) (word : List ℕ) → n ≤ sixteen.positions → L ≤ greatest_level → length word ≡ n → cost (matrix_of sixteen L word) ≤ greatest_limit
affordable n L word few level size =
    let marks = read_and_erased sixteen n word in
    let dear : L * (L + 1) ≤ 5 * 6 = mul-le-mul {n₁ = L} {m₁ = L + 1} {n₂ = 5} {m₂ = 6} level (omega arith) in
    let price : read sixteen n word * entry_cost L ≤ 15 * 15 = mul-le-mul {n₁ = read sixteen n word} {m₁ = entry_cost L} {n₂ = 15} {m₂ = 15} (omega arith) (omega arith) in
    rw (cost_of_marks sixteen n L word size) price

pub desk_of_sixteen : DeskOfSixteen
desk_of_sixteen = record { laws = desk sixteen sixteen_field; affordable = affordable }
