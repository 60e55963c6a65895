-- A clean tag: its list is the one message, with the full score. And a tag that reads one word is refused by no line but that of the cost.
-- Assumes nothing.
use mathlib.Core.Bool.{Bool, true, false, cond}
use mathlib.Core.List.{List, [], ◌∷◌, Memᴰ}
use mathlib.Core.Logic.{◌≢◌}
use mathlib.Core.Path.{◌≡◌, refl, sym, ◌∙◌, ap, ap₂}
use Prim.Native.Nat.{ℕ, zero, suc, ◌+◌, ◌-◌, ◌*◌, ◌/◌, ◌≤◌, ◌<◌}
use native.Mathlib.Nat.{not-suc-le-zero, mul_comm, mul-suc, mul-add, mul_left_comm, mul-le-mul_right, div-eq_of_lt-le}
use native.Mathlib.Omega.{arith}
use borrow.Author.Tests.{eq-eqb, le-ltb}
use lib.Dec.{eqb, ltb}
use lib.ListN.{length, get_or}
use Rattle.algebra.proofs.Elements.{zero_symbol}
use Rattle.algebra.specs.FieldOf.{FieldOf}
use Rattle.audit.proofs.Agreement.{agree_at_most}
use Rattle.audit.proofs.Distance.{stands_first}
use Rattle.audit.proofs.Marks.{twice_entry_cost, sum_of_one, sum_of_ones, read, read_and_erased, marks_counted, cost_of_marks, score_of_marks, codeword_symbol}
use Rattle.audit.specs.Desk.{Sizes}
use Rattle.audit.specs.Marks.{weights_of, matrix_of, erased, wrong}
use Rattle.audit.specs.Words.{Message, agreeing}
use Rattle.definitions.proofs.Above.{above_in_order}
use Rattle.definitions.proofs.Bound.{bound_above}
use Rattle.definitions.proofs.Codeword.{length_codeword}
use Rattle.definitions.proofs.Columns.{columns_pass}
use Rattle.definitions.proofs.Powers.{count_closed}
use Rattle.definitions.proofs.Table.{Accepts, next, end, sizes_pass, level_passes}
use Rattle.definitions.proofs.Tools.{sum_ext}
use Rattle.definitions.specs.Bound.{count, bound}
use Rattle.definitions.specs.Code.{codeword}
use Rattle.definitions.specs.Field.{Code}
use Rattle.definitions.specs.Limits.{greatest_sum, greatest_level, greatest_limit, greatest_rows}
use Rattle.definitions.specs.Listing.{list_of}
use Rattle.definitions.specs.Refusals.{entries, read_table}
use Rattle.definitions.specs.Weights.{entry, sum_of_column, entry_cost, cost, score}
use Rattle.starred.proofs.Single.{length_single, single_entry}

module _ (v : ℕ) (pos : 1 ≤ v) where
  -- N(vL - 1) is v L (L + 1) / 2
  count_of_multiple : (j : ℕ) → count v (v * suc j - 1) ≡ v * entry_cost (suc j)
  count_of_multiple j =
      let D : ℕ = v * suc j - 1 in
      let a = mul-suc v j in
      let b = mul_comm j v in
      let c = mul_comm (suc j) v in
      let powers : D / v ≡ j = div-eq_of_lt-le v (omega arith) (omega arith) in
      let whole : D + 1 ≡ v * suc j = omega arith in
      let closed = count_closed v D in
      let left : suc (D / v) * (D + 1) ≡ v * (suc j * suc j) = ap₂ (λ (x y : ℕ). suc x * y) powers whole ∙ mul_left_comm (suc j) v (suc j) in
      let right : v * (suc (D / v) * (D / v)) ≡ v * (suc j * j) = ap (λ (x : ℕ). v * (suc x * x)) powers in
      let twice : v * (2 * entry_cost (suc j)) ≡ v * (suc (suc j) * suc j) = ap (λ (x : ℕ). v * x) (twice_entry_cost (suc j)) in
      let out = mul_left_comm v 2 (entry_cost (suc j)) in
      let split : suc (suc j) * suc j + suc j * j ≡ 2 * (suc j * suc j) =
      (let d = mul-suc (suc j) j in let e = mul_comm (suc (suc j)) (suc j) in let g = mul-suc (suc j) (suc j) in omega arith) in
      let sum : v * (suc (suc j) * suc j) + v * (suc j * j) ≡ v * (2 * (suc j * suc j)) = sym (mul-add v (suc (suc j) * suc j) (suc j * j)) ∙ ap (λ (x : ℕ). v * x) split in
      let two = mul_left_comm v 2 (suc j * suc j) in
      omega arith

  -- of n marks, each with L, the bound is at least v L
  pub bound_of_marks : (n L : ℕ) → 1 ≤ L → v ≤ n → v * L ≤ bound v (n * entry_cost L)
  bound_of_marks n zero level h = absurd (not-suc-le-zero level)
  bound_of_marks n (suc j) level h =
      let few = count_of_multiple j in
      let more : v * entry_cost (suc j) ≤ n * entry_cost (suc j) = mul-le-mul_right (entry_cost (suc j)) h in
      let low = bound_above v pos (n * entry_cost (suc j)) (v * suc j - 1) (omega arith) in
      omega arith

module _ (C : Code) (F : FieldOf C) (n k L : ℕ) (f : List ℕ) (sizes : Sizes C n k) (level : 1 ≤ L) (mf : Message C k f) where
  abbrev c : List ℕ
  c = codeword C n f

  abbrev m : List ℕ
  m = matrix_of C L c

  -- every mark is right
  all_agree : agreeing n c c ≡ n
  all_agree = sum_of_ones n (λ (i : ℕ). cond (eqb (get_or c i 0) (get_or c i 0)) 1 0) (λ i _. rw (eq-eqb (get_or c i 0) (get_or c i 0) refl) refl)

  none_worn : wrong C n c c + erased C n c ≡ 0
  none_worn = let all = marks_counted C n c c (codeword_symbol C F n k f mf) in let e = all_agree in omega arith

  pub clean_cost : cost m ≡ n * entry_cost L
  clean_cost =
      let rest = read_and_erased C n c in
      let none = none_worn in
      let every : read C n c ≡ n = omega arith in
      cost_of_marks C n L c (length_codeword C f n) ∙ ap (λ (x : ℕ). x * entry_cost L) every

  -- "nL"
  pub clean_score : score C n m f ≡ n * L
  clean_score = score_of_marks C n L c (length_codeword C f n) F k f mf ∙ ap (λ (x : ℕ). x * L) all_agree

  -- no other message is above the bound
  others_out : (g : List ℕ) → Message C k g → g ≢ f → score C n m g ≤ bound (k - 1) (cost m)
  others_out g mg other =
      let s = sizes in
      let agree = agree_at_most C F n k g f sizes.2 mg mf other in
      let low : agreeing n (codeword C n g) c * L ≤ (k - 1) * L = mul-le-mul_right L agree in
      let high = bound_of_marks (k - 1) (omega arith) n L level (omega arith) in
      let price = ap (bound (k - 1)) clean_cost in
      rw (score_of_marks C n L c (length_codeword C f n) F k g mg) (omega arith)

  -- so the message stands alone
  alone_of : (rest : List (List ℕ)) → list_of C n k m ≡ f ∷ rest → ((g : List ℕ) → Memᴰ g rest → score C n m g + L ≤ score C n m f) → list_of C n k m ≡ f ∷ []
  alone_of [] is low = is
  alone_of (g ∷ rest) is low =
      let all = above_in_order C (zero_symbol C F) n k m (bound (k - 1) (cost m)) in
      let row : Memᴰ g (list_of C n k m) = rw is (mathlib.Core.List.Memᴰ.tail (mathlib.Core.List.Memᴰ.head refl)) in
      let less = low g (mathlib.Core.List.Memᴰ.head refl) in
      let high = all.greater g row in
      let out = others_out g (all.sized g row, all.symbols g row) (λ e. let same = ap (score C n m) e in let z : ⊥ = omega arith in z) in
      let z : ⊥ = omega arith in
      absurd z

  pub clean_alone : list_of C n k m ≡ f ∷ []
  clean_alone =
      let none = none_worn in
      let first = stands_first C F n k L f c sizes level mf (length_codeword C f n) (omega arith) in
      alone_of first.rest first.first first.leads

-- ---- the table

-- a tag that reads one word: its columns sum to 4,096, or to nothing
module _ (C : Code) (n : ℕ) (word : List ℕ) (size : length word ≡ n) where
  column_sum : (i : ℕ) → i < n → sum_of_column C (weights_of C word) i ≤ greatest_sum
  column_sum i h =
      let one = sum_ext C.symbols (entry C (weights_of C word) i) (λ (b : ℕ). cond (eqb b (get_or word i 0)) greatest_sum 0)
      (λ b l. single_entry C greatest_sum word i b (omega arith) l) ∙ sum_of_one C.symbols (get_or word i 0) greatest_sum in
      let most = at_most (ltb (get_or word i 0) C.symbols) in
      omega arith
    where
      at_most : (t : Bool) → cond t greatest_sum 0 ≤ greatest_sum
      at_most true = omega arith
      at_most false = omega arith

  -- so only the cost can refuse it
  pub word_taken : (k L G rows scores : ℕ) → Sizes C n k → (1 ≤ L) × (L ≤ greatest_level) → G ≤ greatest_limit
      → greatest_rows * k ≤ rows → greatest_rows ≤ scores → cost (matrix_of C L word) ≤ G → Accepts (read_table C n k L G (weights_of C word) rows scores)
  word_taken k L G rows scores sizes level limit rows_room scores_room price =
      let long : (entries (C.symbols * n) (weights_of C word)).given ≡ false =
      rw (eq-eqb (length (weights_of C word)) (C.symbols * n) (length_single C greatest_sum word ∙ ap (λ (x : ℕ). C.symbols * x) size)) refl in
      next (sizes_pass C n k sizes.0 sizes.1 sizes.2)
      (next (level_passes L level.0 level.1)
      (next (le-ltb greatest_limit G limit)
      (next long
      (next (le-ltb rows (greatest_rows * k) rows_room)
      (next (le-ltb scores greatest_rows scores_room) (next (columns_pass C (weights_of C word) n column_sum) (next (le-ltb G (cost (matrix_of C L word)) price) end)))))))
