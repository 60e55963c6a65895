-- The chain of the list: the roots of a polynomial are ranked above a threshold, and where it passes that is every message above it.
-- Assumes nothing.
use mathlib.Core.List.{List, [], ◌++◌, map, flatten, Memᴰ}
use mathlib.Core.Path.{◌≡◌, refl, sym, ◌∙◌, ap, subst}
use Prim.Native.Nat.{ℕ, ◌+◌, ◌*◌, ◌-◌, ◌≤◌}
use native.Mathlib.Nat.{mul-le-mul}
use native.Mathlib.Omega.{arith}
use lib.Dec.{ltb}
use lib.ListN.{length, drop, length-append, length-drop}
use Rattle.algebra.proofs.Complete.{roots_hold_high_scores}
use Rattle.algebra.proofs.Elements.{zero_symbol}
use Rattle.algebra.proofs.Every.{All, all_members, length_flatten, symbols_flatten}
use Rattle.algebra.specs.FieldOf.{FieldOf}
use Rattle.definitions.proofs.Listing.{falling_in_order}
use Rattle.definitions.proofs.Messages.{messages_in_order}
use Rattle.definitions.proofs.Symbols.{append_symbols, drop_symbols}
use Rattle.definitions.proofs.Tools.{select_from, length_select}
use Rattle.definitions.specs.Answers.{rows_onto}
use Rattle.definitions.specs.Bound.{count}
use Rattle.definitions.specs.Code.{Symbols, messages}
use Rattle.definitions.specs.Field.{Code}
use Rattle.definitions.specs.Limits.{greatest_rows}
use Rattle.definitions.specs.Listing.{falling_onto, above}
use Rattle.definitions.specs.Polynomial.{Through}
use Rattle.definitions.specs.Roots.{is_root, roots_of}
use Rattle.definitions.specs.Tools.{select}
use Rattle.definitions.specs.Weights.{score}
use Rattle.ranking.proofs.Written.{Sized}
use Rattle.list_within.specs.Within.{Lists, Rooted, roots_above}
use Rattle.ranking.proofs.Falling.{all_ranked}
use Rattle.ranking.proofs.Memory.{rows_read}
use Rattle.ranking.proofs.Same.{ranked_same, map_same}
use Rattle.ranking.specs.Rows.{rows_of, ranked, scores_of}
use Rattle.ranking.proofs.MatrixScore.{matrix_score_lem}
use Rattle.ranking.specs.Scores.{matrix_score}
use Rattle.root_tree.proofs.Roots.{roots_at_most}
use Rattle.matrix.specs.Columns.{matrix_of}

module _ (C : Code) (F : FieldOf C) where
  module _ (D k : ℕ) (q : List ℕ) where
    root_member : (f : List ℕ) → Memᴰ f (roots_of C D k q) → Memᴰ f (messages C k)
    root_member f m = select_from (is_root C (k - 1) D q) (messages C k) f m

    -- roots are messages: k symbols each
    pub roots_sized : Sized k (roots_of C D k q)
    roots_sized = all_members (λ f. length f ≡ k) (roots_of C D k q) (λ f m. (messages_in_order C (zero_symbol C F) k).sized f (root_member f m))

    pub roots_symbols : All (λ f. Symbols C f) (roots_of C D k q)
    roots_symbols = all_members (λ f. Symbols C f) (roots_of C D k q) (λ f m. (messages_in_order C (zero_symbol C F) k).symbols f (root_member f m))

    -- memory that held symbols holds symbols after they are written
    pub found_symbols : (before found : List ℕ) → Symbols C before → found ≡ rows_onto k (roots_of C D k q) before → Symbols C found
    found_symbols before found s e =
        subst (λ (l : List ℕ). Symbols C l) (sym e)
        (append_symbols C (flatten (roots_of C D k q)) (drop (k * length (roots_of C D k q)) before) (symbols_flatten C (zero_symbol C F) (roots_of C D k q) roots_symbols)
        (drop_symbols C (k * length (roots_of C D k q)) before s))

  -- of any polynomial of few powers of y: its roots, ranked
  module _ (n k D t : ℕ) (q : List ℕ) (r : Rooted C n k D t q) where
    -- at most as many as a list has rows
    pub few_roots : length (roots_of C D k q) ≤ greatest_rows
    few_roots =
        let most = roots_at_most C F k D r.sized.0 q r.symbols (let e = r.full in omega arith) r.nonzero in
        let low = r.low in
        omega arith

    module _ (m : List ℕ) (size : length m ≡ C.symbols * n) where
      -- there are at most as many rows as are lent
      pub few_rows : length (roots_above C n k m D q t) ≤ greatest_rows
      few_rows =
          let high = select (λ (f : List ℕ). ltb t (score C n m f)) (roots_of C D k q) in
          let kept = (falling_in_order (score C n m) high).size in
          let fewer = length_select (λ (f : List ℕ). ltb t (score C n m f)) (roots_of C D k q) in
          let few = few_roots in
          omega arith

      agree : All (λ f. matrix_score C (matrix_of C m n) n f ≡ score C n m f) (roots_of C D k q)
      agree = all_members (λ f. matrix_score C (matrix_of C m n) n f ≡ score C n m f) (roots_of C D k q) (λ f e.
          matrix_score_lem C F m n r.sized.2 size f ((messages_in_order C (zero_symbol C F) k).symbols f (root_member D k q f e)))

      is_ranked : ranked (score C n m) t (roots_of C D k q) ≡ roots_above C n k m D q t
      unfolding ranked
      is_ranked = refl

      ranked_are : (a : List (List ℕ)) (before found : List ℕ) (many : ℕ) → a ≡ matrix_of C m n → many ≡ length (roots_of C D k q) → found ≡ rows_onto k (roots_of C D k q) before
          → ranked (matrix_score C a n) t (rows_of k many found) ≡ roots_above C n k m D q t
      ranked_are a before found many ea em ef =
          ap (λ (x : List (List ℕ)). ranked (matrix_score C x n) t (rows_of k many found)) ea
          ∙ ap (ranked (matrix_score C (matrix_of C m n) n) t) (rows_read k (roots_of C D k q) before found many (roots_sized D k q) em ef)
          ∙ ranked_same (matrix_score C (matrix_of C m n) n) (score C n m) t (roots_of C D k q) agree ∙ is_ranked

      -- the scores are those of the bytes
      ranked_scores : map (matrix_score C (matrix_of C m n) n) (roots_above C n k m D q t) ≡ map (score C n m) (roots_above C n k m D q t)
      ranked_scores =
          map_same (matrix_score C (matrix_of C m n) n) (score C n m) (roots_above C n k m D q t)
          (subst (λ (l : List (List ℕ)). All (λ f. matrix_score C (matrix_of C m n) n f ≡ score C n m f) l) is_ranked
          (all_ranked (score C n m) (λ f. matrix_score C (matrix_of C m n) n f ≡ score C n m f) t (roots_of C D k q) agree))

      pub roots_listed : (a : List (List ℕ)) (before found : List ℕ) (many : ℕ) → a ≡ matrix_of C m n → many ≡ length (roots_of C D k q) → found ≡ rows_onto k (roots_of C D k q) before
          → (out scores : List ℕ) (count : ℕ) (out_after scores_after : List ℕ) → count ≡ length (ranked (matrix_score C a n) t (rows_of k many found))
          → out_after ≡ rows_onto k (ranked (matrix_score C a n) t (rows_of k many found)) out → scores_after ≡ scores_of (matrix_score C a n) (ranked (matrix_score C a n) t (rows_of k many found)) scores
          → Lists C n k m (roots_above C n k m D q t) out scores count out_after scores_after
      roots_listed a before found many ea em ef out scores count out_after scores_after ec eo es =
          let e = ranked_are a before found many ea em ef in
          record {
            counted = ec ∙ ap length e;
            few = rw (ec ∙ ap length e) few_rows;
            rows_are = eo ∙ ap (λ (l : List (List ℕ)). rows_onto k l out) e;
            scores_are =
                es ∙ ap (λ (l : List (List ℕ)). scores_of (matrix_score C a n) l scores) e ∙ ap (λ (x : List (List ℕ)). scores_of (matrix_score C x n) (roots_above C n k m D q t) scores) ea
                ∙ ap (λ (l : List ℕ). l ++ drop (length (roots_above C n k m D q t)) scores) ranked_scores;
          }

      -- where the polynomial passes and its degree limit is at most t, they are all messages whose score is above t
      pub lists : Through C n (k - 1) D m q → D ≤ t → (u : ℕ) → t ≡ u → {out scores : List ℕ} {count : ℕ} {out_after scores_after : List ℕ}
          → Lists C n k m (roots_above C n k m D q t) out scores count out_after scores_after → Lists C n k m (above C n k m u) out scores count out_after scores_after
      lists through within u e {out} {scores} {count} {out_after} {scores_after} =
          subst (λ (l : List (List ℕ)). Lists C n k m l out scores count out_after scores_after)
          (ap (falling_onto (score C n m) []) (let s = r.sized in roots_hold_high_scores C F n k D t m q (omega arith) s.2 r.symbols through within)
          ∙ ap (above C n k m) e)

  -- memory is as long after roots are written
  pub length_found : (D k : ℕ) (q before found : List ℕ) → k * length (roots_of C D k q) ≤ length before → found ≡ rows_onto k (roots_of C D k q) before → length found ≡ length before
  length_found D k q before found h e =
      let size = length_flatten k (roots_of C D k q) (roots_sized D k q) in
      ap length e ∙ length-append (flatten (roots_of C D k q)) (drop (k * length (roots_of C D k q)) before)
      ∙ ap (λ (x : ℕ). length (flatten (roots_of C D k q)) + x) (length-drop (k * length (roots_of C D k q)) before) ∙ omega arith

-- the most rows of the most symbols
pub rows_fit : (n k many : ℕ) → k ≤ n → many ≤ greatest_rows → k * many ≤ n * greatest_rows
rows_fit n k many hk hm = mul-le-mul {n₁ = k} {m₁ = many} {n₂ = n} {m₂ = greatest_rows} hk hm
