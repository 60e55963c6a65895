-- A tag that reads one word: its matrix costs the same for each mark that is not erased, and a message scores L for each mark that its codeword
-- has so. What another codeword can have in common with the word.
-- Assumes nothing.
use mathlib.Core.Bool.{Bool, true, false, cond}
use mathlib.Core.List.{List}
use mathlib.Core.Path.{◌≡◌, refl, sym, ◌∙◌, ap}
use Prim.Native.Nat.{ℕ, zero, suc, ◌+◌, ◌*◌, ◌≤◌, ◌<◌}
use native.Mathlib.Decide.{dec_lt, ℕ_discrete}
use native.Mathlib.Nat.{mul_comm, mul-suc, suc-mul}
use native.Mathlib.Omega.{arith}
use borrow.Author.Tests.{eq-eqb, ne_eqb, lt-ltb, le-ltb}
use lib.Dec.{eqb, ltb}
use lib.ListN.{length, get_or}
use Rattle.algebra.proofs.Numbers.{point_symbol, value_symbol}
use Rattle.algebra.specs.FieldOf.{FieldOf}
use Rattle.audit.specs.Marks.{matrix_of, erased, wrong}
use Rattle.audit.specs.Words.{Message, agreeing}
use Rattle.definitions.proofs.Codeword.{codeword_at}
use Rattle.definitions.proofs.Sums.{sum_blocks, sum_both, sum_times}
use Rattle.definitions.proofs.Tools.{sum_zero, sum_suc, sum_ext, sum_le}
use Rattle.definitions.proofs.Weights.{entry_cost_suc}
use Rattle.definitions.specs.Code.{point, codeword}
use Rattle.definitions.specs.Field.{Code}
use Rattle.definitions.specs.Tools.{sum}
use Rattle.definitions.specs.Weights.{entry, entry_cost, cost, score}
use Rattle.starred.proofs.Single.{length_single, single_entry, single_matrix}
use Rattle.starred.specs.Single.{single}

-- twice the cost of an entry
pub twice_entry_cost : (m : ℕ) → 2 * entry_cost m ≡ suc m * m
twice_entry_cost zero = refl
twice_entry_cost (suc m) =
    let r = twice_entry_cost m in
    let e = entry_cost_suc m in
    let a = mul-suc (suc (suc m)) m in
    let b = suc-mul (suc m) m in
    omega arith

-- a sum whose only term is that of s
pub sum_of_one : (q s x : ℕ) → sum q (λ (b : ℕ). cond (eqb b s) x 0) ≡ cond (ltb s q) x 0
sum_of_one zero s x = sum_zero (λ (b : ℕ). cond (eqb b s) x 0) ∙ sym (rw (le-ltb s 0 (omega arith)))
sum_of_one (suc q) s x =
    let more = sum_suc q (λ (b : ℕ). cond (eqb b s) x 0) in
    let rest = sum_of_one q s x in
    elim (dec_lt s q) [
      | yes h ↦
          let none : cond (eqb q s) x 0 ≡ 0 = rw (ne_eqb q s (λ e. omega arith)) refl in
          let here : cond (ltb s q) x 0 ≡ x = rw (lt-ltb s q h) refl in
          rw (lt-ltb s (suc q) (omega arith)) (omega arith)
      | no g ↦
          let before : cond (ltb s q) x 0 ≡ 0 = rw (le-ltb s q (omega arith)) refl in
          elim (dec_lt s (suc q)) [
            | yes h ↦
                let here : cond (eqb q s) x 0 ≡ x = rw (eq-eqb q s (omega arith)) refl in
                rw (lt-ltb s (suc q) h) (omega arith)
            | no l ↦
                let none : cond (eqb q s) x 0 ≡ 0 = rw (ne_eqb q s (λ e. omega arith)) refl in
                rw (le-ltb s (suc q) (omega arith)) (omega arith)
          ]
    ]

-- how many marks are not erased
abbrev pub read : Code → ℕ → List ℕ → ℕ
read C n word = sum n (λ (i : ℕ). cond (ltb (get_or word i 0) C.symbols) 1 0)

-- a cost, or a weight, where a test passes
cost_where : (t : Bool) (w : ℕ) → entry_cost (cond t w 0) ≡ cond t (entry_cost w) 0
cost_where true w = refl
cost_where false w = refl

times_where : (t : Bool) (w : ℕ) → cond t w 0 ≡ w * cond t 1 0
times_where true w = omega arith
times_where false w = omega arith

pub codeword_symbol : (C : Code) (F : FieldOf C) (n k : ℕ) (f : List ℕ) → Message C k f → (i : ℕ) → i < n → get_or (codeword C n f) i 0 < C.symbols
codeword_symbol C F n k f m i h = rw (codeword_at C f n i h) (value_symbol C F (point C i) f (point_symbol C F i) m.1)

module _ (C : Code) (n L : ℕ) (word : List ℕ) (size : length word ≡ n) where
  -- a column costs what its one entry costs, and an erased one nothing
  column_cost_lem : (i : ℕ) → i < n
      → sum C.symbols (λ (b : ℕ). entry_cost (entry C (single C L word) i b)) ≡ entry_cost L * cond (ltb (get_or word i 0) C.symbols) 1 0
  column_cost_lem i h =
      sum_ext C.symbols (λ (b : ℕ). entry_cost (entry C (single C L word) i b)) (λ (b : ℕ). cond (eqb b (get_or word i 0)) (entry_cost L) 0)
      (λ b l. ap entry_cost (single_entry C L word i b (omega arith) l) ∙ cost_where (eqb b (get_or word i 0)) L)
      ∙ sum_of_one C.symbols (get_or word i 0) (entry_cost L) ∙ times_where (ltb (get_or word i 0) C.symbols) (entry_cost L)

  pub cost_of_marks : cost (matrix_of C L word) ≡ read C n word * entry_cost L
  cost_of_marks =
      let whole = length_single C L word ∙ ap (λ (m : ℕ). C.symbols * m) size in
      let turn = mul_comm (entry_cost L) (read C n word) in
      ap cost (single_matrix C L word)
      ∙ ap (λ (m : ℕ). sum m (λ (j : ℕ). entry_cost (get_or (single C L word) j 0))) whole
      ∙ sum_blocks C.symbols n (λ (j : ℕ). entry_cost (get_or (single C L word) j 0))
      ∙ sum_ext n (λ i. sum C.symbols (λ b. entry_cost (entry C (single C L word) i b)))
      (λ i. entry_cost L * cond (ltb (get_or word i 0) C.symbols) 1 0) column_cost_lem
      ∙ sum_times n (entry_cost L) (λ i. cond (ltb (get_or word i 0) C.symbols) 1 0) ∙ turn

  module _ (F : FieldOf C) (k : ℕ) (f : List ℕ) (m : Message C k f) where
    pub score_of_marks : score C n (matrix_of C L word) f ≡ agreeing n (codeword C n f) word * L
    score_of_marks =
        let turn = mul_comm L (agreeing n (codeword C n f) word) in
        ap (λ (x : List ℕ). score C n x f) (single_matrix C L word)
        ∙ sum_ext n (λ i. entry C (single C L word) i (get_or (codeword C n f) i 0)) (λ i. L * cond (eqb (get_or (codeword C n f) i 0) (get_or word i 0)) 1 0)
        (λ i h. single_entry C L word i (get_or (codeword C n f) i 0) (omega arith) (codeword_symbol C F n k f m i h) ∙ times_where (eqb (get_or (codeword C n f) i 0) (get_or word i 0)) L)
        ∙ sum_times n L (λ i. cond (eqb (get_or (codeword C n f) i 0) (get_or word i 0)) 1 0) ∙ turn

-- ---- one mark

-- a mark agrees with a symbol, or is read wrong, or is erased
one_of_three : (q s c : ℕ) → c < q → cond (eqb c s) 1 0 + (cond (ltb s q) (cond (eqb s c) 0 1) 0 + cond (ltb s q) 0 1) ≡ 1
one_of_three q s c h =
    elim (ℕ_discrete c s) [
      | yes e ↦ rw (eq-eqb c s e, eq-eqb s c (sym e), lt-ltb s q (omega arith)) refl
      | no n ↦
          elim (dec_lt s q) [
            | yes l ↦ rw (ne_eqb c s n, ne_eqb s c (λ e. n (sym e)), lt-ltb s q l) refl
            | no l ↦ rw (ne_eqb c s n, le-ltb s q (omega arith)) refl
          ]
    ]

-- another symbol that it agrees with is that of c, or the mark is read wrong
shared : (q s c d : ℕ) → d < q → cond (eqb d s) 1 0 ≤ cond (eqb d c) 1 0 + cond (ltb s q) (cond (eqb s c) 0 1) 0
shared q s c d h =
    elim (ℕ_discrete d s) [
      | yes e ↦
          elim (ℕ_discrete d c) [
            | yes f ↦ rw (eq-eqb d s e, eq-eqb d c f) (omega arith)
            | no f ↦ rw (eq-eqb d s e, ne_eqb s c (λ g. f (e ∙ g)), lt-ltb s q (omega arith)) (omega arith)
          ]
      | no e ↦ rw (ne_eqb d s e) (omega arith)
    ]

-- a mark is read, or erased
read_or_erased : (t : Bool) → cond t 1 0 + cond t 0 1 ≡ 1
read_or_erased true = refl
read_or_erased false = refl

-- ---- all of them

pub sum_of_ones : (n : ℕ) (f : ℕ → ℕ) → ((i : ℕ) → i < n → f i ≡ 1) → sum n f ≡ n
sum_of_ones zero f h = sum_zero f
sum_of_ones (suc n) f h =
    let r = sum_of_ones n f (λ i l. h i (omega arith)) in
    let e = h n (omega arith) in
    let s = sum_suc n f in
    omega arith

module _ (C : Code) (n : ℕ) (word : List ℕ) where
  pub read_and_erased : read C n word + erased C n word ≡ n
  read_and_erased =
      let r : ℕ → ℕ = λ i. cond (ltb (get_or word i 0) C.symbols) 1 0 in
      let e : ℕ → ℕ = λ i. cond (ltb (get_or word i 0) C.symbols) 0 1 in
      sym (sum_both n r e) ∙ sum_of_ones n (λ i. r i + e i) (λ i _. read_or_erased (ltb (get_or word i 0) C.symbols))

  module _ (c : List ℕ) where
    abbrev misread : ℕ → ℕ
    misread i = cond (ltb (get_or word i 0) C.symbols) (cond (eqb (get_or word i 0) (get_or c i 0)) 0 1) 0

    pub marks_counted : ((i : ℕ) → i < n → get_or c i 0 < C.symbols) → agreeing n c word + (wrong C n word c + erased C n word) ≡ n
    marks_counted symbols =
        let a : ℕ → ℕ = λ i. cond (eqb (get_or c i 0) (get_or word i 0)) 1 0 in
        let e : ℕ → ℕ = λ i. cond (ltb (get_or word i 0) C.symbols) 0 1 in
        ap (λ (x : ℕ). agreeing n c word + x) (sym (sum_both n misread e)) ∙ sym (sum_both n a (λ i. misread i + e i))
        ∙ sum_of_ones n (λ i. a i + (misread i + e i)) (λ i h. one_of_three C.symbols (get_or word i 0) (get_or c i 0) (symbols i h))

    -- another codeword agrees with the word where it agrees with c, or where a mark is read wrong
    pub shared_marks : (d : List ℕ) → ((i : ℕ) → i < n → get_or d i 0 < C.symbols) → agreeing n d word ≤ agreeing n d c + wrong C n word c
    shared_marks d symbols =
        let a : ℕ → ℕ = λ i. cond (eqb (get_or d i 0) (get_or c i 0)) 1 0 in
        let each = sum_le n (λ i. cond (eqb (get_or d i 0) (get_or word i 0)) 1 0) (λ i. a i + misread i)
        (λ i h. shared C.symbols (get_or word i 0) (get_or c i 0) (get_or d i 0) (symbols i h)) in
        let apart = sum_both n a misread in
        omega arith
