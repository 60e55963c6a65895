-- A step of the elimination that is done block by block, in the columns from the block of the pivot on, is the step on whole rows: in the
-- columns before, the rows from the pivot on are zero.
-- Assumes nothing.
use mathlib.Core.List.{List, []}
use mathlib.Core.Logic.{◌≢◌}
use mathlib.Core.Path.{◌≡◌, refl, sym, ◌∙◌, ap, ap₂, subst, fun_ext}
use Prim.Native.Nat.{ℕ, suc, ◌≤◌, ◌<◌}
use native.Mathlib.Decide.{ℕ_discrete, dec_lt}
use native.Mathlib.Omega.{arith}
use lib.ListN.{length, get_or, set, length-set}
use lib.Seq.{get_or-set_same, get_or-set_other}
use Rattle.algebra.proofs.Elements.{plus_none, times_none}
use Rattle.algebra.specs.FieldOf.{FieldOf}
use Rattle.algebra.specs.Grid.{entry_of, Patched}
use Rattle.definitions.specs.Field.{Ops, Code, numbers}
use Rattle.linear.proofs.Symbols.{step_solutions, step_triangle}
use Rattle.linear.proofs.Triangle.{TriangleColumns, Stepped}
use Rattle.linear.specs.Columns.{Between, Exchanged, Lowered}
use Rattle.linear.specs.Rows.{SymbolRows, SameSolutions, Triangle}

module _ {K : Type 0} (P : (ℕ → K) → (ℕ → K) → Type 0) where
  -- no column is changed yet
  pub between_none : (from : ℕ) (m : ℕ → ℕ → K) → Between P from from m m
  between_none from m = record { inside = λ k l h. let z : ⊥ = omega arith in absurd z; before = λ k h t. refl; after = λ k h t. refl }

  -- a block more
  pub between_more : (from mid to : ℕ) (o m b : ℕ → ℕ → K) → from ≤ mid → mid ≤ to → Between P from mid o m → Between P mid to m b → Between P from to o b
  between_more from mid to o m b l g d e = record {
    inside = λ k low high. elim (dec_lt k mid) [
      | yes h ↦ subst (P (λ t. o t k)) (sym (fun_ext (λ t. e.before k h t))) (d.inside k low h)
      | no h ↦ subst (λ (x : ℕ → K). P x (λ t. b t k)) (fun_ext (λ t. d.after k (omega arith) t)) (e.inside k (omega arith) high)
    ];
    before = λ k h t. e.before k (omega arith) t ∙ d.before k h t;
    after = λ k h t. e.after k h t ∙ d.after k (omega arith) t;
  }

-- over numbers as over elements: Good numbers are those on which zero is neutral
module _ (A : Ops) (Good : A.K → Type 0) (times_zero_is : (c : A.K) → Good c → A.mul c A.o ≡ A.o) (plus_zero_is : (a : A.K) → Good a → A.add a A.o ≡ a) where
  open A use {K, o, add as ◌⊕◌, mul as ◌⊗◌}

  infixl 60 ◌⊕◌
  infixl 70 ◌⊗◌
  -- a multiple of zero adds nothing
  adds_nothing : (x c z y : K) → Good x → Good c → z ≡ o → y ≡ x → y ≡ x ⊕ c ⊗ z
  adds_nothing x c z y gx gc e f = f ∙ sym (ap (λ (w : K). x ⊕ c ⊗ w) e ∙ ap (λ (w : K). x ⊕ w) (times_zero_is c gc) ∙ plus_zero_is x gx)

  module _ (R W from : ℕ) (m e b : ℕ → ℕ → K) (r j : ℕ) (u : K) (good : (t k : ℕ) → Good (m t k)) (gu : Good u) (low : j ≤ r) (hr : r < R)
      (start : from ≤ j) (room : j < W) (columns : TriangleColumns A R j m) (exchanged : Between (Exchanged A r j u) from W m e)
      (lowered : Between (Lowered A R j (λ t. e t j)) from W e b) where
    -- before the block all stays
    stays : (k : ℕ) → k < from → (t : ℕ) → b t k ≡ m t k
    stays k h t = lowered.before k h t ∙ exchanged.before k h t

    -- and is zero from row j on
    zero_there : (k : ℕ) → k < from → (t : ℕ) → j ≤ t → t < R → m t k ≡ o
    zero_there k h t l f = (columns k (omega arith)).1 t (omega arith) f

    -- the pivot row
    of_pivot : (k : ℕ) → k < W → b j k ≡ u ⊗ m r k
    of_pivot k h =
        elim (dec_lt k from) [
          | yes l ↦
              stays k l j ∙ zero_there k l j (omega arith) (omega arith)
              ∙ sym (ap (λ (x : K). u ⊗ x) (zero_there k l r low hr) ∙ times_zero_is u gu)
          | no l ↦ (lowered.inside k (omega arith) h).above j (omega arith) ∙ (exchanged.inside k (omega arith) h).pivot
        ]

    -- the row that row j became, row a of m
    of_lower : (t a k : ℕ) → j < t → t < R → j ≤ a → a < R → k < W → ((k : ℕ) → from ≤ k → k < W → e t k ≡ m a k) → b t k ≡ m a k ⊕ m a j ⊗ b j k
    of_lower t a k l f g d h is =
        elim (dec_lt k from) [
          | yes c ↦
              adds_nothing (m a k) (m a j) (b j k) (b t k) (good a k) (good a j) (stays k c j ∙ zero_there k c j (omega arith) (omega arith))
              (stays k c t ∙ zero_there k c t (omega arith) f ∙ sym (zero_there k c a g d))
          | no c ↦
              (lowered.inside k (omega arith) h).below t l f
              ∙ ap₂ (λ (x y : K). x ⊕ y ⊗ e j k) (is k (omega arith) h) (is j start room)
              ∙ ap (λ (x : K). m a k ⊕ m a j ⊗ x) (sym ((lowered.inside k (omega arith) h).above j (omega arith)))
        ]

    -- so the step is made on whole rows
    pub stepped_by_blocks : Stepped A R W m b r j u
    stepped_by_blocks = record {
      pivot = of_pivot;
      moved = λ n k h. of_lower r j k (omega arith) hr (omega arith) (omega arith) h (λ c l f. (exchanged.inside c l f).moved n);
      below = λ t l f n k h.
          of_lower t t k l f (omega arith) f h (λ c g d. (exchanged.inside c g d).others t (λ e. omega arith) n);
      above = λ t l k h. elim (dec_lt k from) [
        | yes c ↦ stays k c t
        | no c ↦
            (lowered.inside k (omega arith) h).above t (omega arith)
            ∙ (exchanged.inside k (omega arith) h).others t (λ e. omega arith) (λ e. omega arith)
      ];
    }

-- ---- on rows of symbols

-- a row of symbols that is patched with symbols is one
pub patched_symbols : (C : Code) (from to : ℕ) (f old new : ℕ → ℕ) → Patched from to f old new → ((k : ℕ) → from ≤ k → k < to → f k < C.symbols)
    → ((k : ℕ) → old k < C.symbols) → (k : ℕ) → new k < C.symbols
patched_symbols C from to f old new p sf so k =
    elim (dec_lt k from) [
      | yes l ↦ subst (λ (x : ℕ). x < C.symbols) (sym (p.before k l)) (so k)
      | no l ↦
          elim (dec_lt k to) [
            | yes h ↦ subst (λ (x : ℕ). x < C.symbols) (sym (p.inside k (omega arith) h)) (sf k (omega arith) h)
            | no h ↦ subst (λ (x : ℕ). x < C.symbols) (sym (p.after k (omega arith))) (so k)
          ]
    ]

module _ (C : Code) (F : FieldOf C) (rows W from : ℕ) (m e b : List (List ℕ)) (r j u : ℕ) (sm : SymbolRows C m) (sb : SymbolRows C b) (hu : u < C.symbols) (low : j ≤ r)
    (hr : r < rows) (start : from ≤ j) (room : j < W) (columns : Triangle rows j m) (exchanged : Between (Exchanged (numbers C) r j u) from W (entry_of m) (entry_of e))
    (lowered : Between (Lowered (numbers C) rows j (λ t. entry_of e t j)) from W (entry_of e) (entry_of b)) where
  -- a step block by block is the step on whole rows
  blocks_stepped : Stepped (numbers C) rows W (entry_of m) (entry_of b) r j u
  blocks_stepped =
      stepped_by_blocks (numbers C) (λ (a : ℕ). a < C.symbols) (times_none C F) (plus_none C F) rows W from (entry_of m) (entry_of e) (entry_of b) r j u
      (λ t k. sm t k) hu low hr start room columns exchanged lowered

  module _ (one : C.times u (entry_of m r j) ≡ 1) where
    -- it keeps the solutions
    pub blocks_solutions : SameSolutions C rows W m b
    blocks_solutions = step_solutions C F rows W m b r j u sm sb hr (omega arith) hu blocks_stepped one

    -- and the triangle gains a column
    pub blocks_triangle : Triangle rows (suc j) b
    blocks_triangle = step_triangle C F rows W m b r j u sm sb hr (omega arith) hu blocks_stepped one room low columns

-- rows r and j change places in one block: row r is patched first, then row j
pub exchanged_block : (C : Code) (from to : ℕ) (m : List (List ℕ)) (r j u : ℕ) (first second : List ℕ) → r < length m → j < length m
    → Patched from to (entry_of m j) (entry_of m r) (λ k. get_or first k 0)
    → Patched from to (λ k. C.times u (entry_of m r k)) (entry_of (set m r first) j) (λ k. get_or second k 0)
    → Between (Exchanged (numbers C) r j u) from to (entry_of m) (entry_of (set (set m r first) j second))
exchanged_block C from to m r j u first second hr hj pr pj = record {
  inside = λ k l h. record {
    pivot = at_pivot k ∙ pj.inside k l h;
    moved = λ n. at_moved n k ∙ pr.inside k l h;
    others = λ t n f. at_other t n f k;
  };
  before = λ k h t. elsewhere k t (pr.before k h) (pj.before k h);
  after = λ k h t. elsewhere k t (pr.after k h) (pj.after k h);
}
  where
    at_pivot : (k : ℕ) → entry_of (set (set m r first) j second) j k ≡ get_or second k 0
    at_pivot k = ap (λ (x : List ℕ). get_or x k 0) (get_or-set_same (set m r first) j second [] (let e = length-set m r first in omega arith))

    at_moved : r ≢ j → (k : ℕ) → entry_of (set (set m r first) j second) r k ≡ get_or first k 0
    at_moved n k = ap (λ (x : List ℕ). get_or x k 0) (get_or-set_other (set m r first) j r second [] n ∙ get_or-set_same m r first [] hr)

    at_other : (t : ℕ) → t ≢ j → t ≢ r → (k : ℕ) → entry_of (set (set m r first) j second) t k ≡ entry_of m t k
    at_other t n f k = ap (λ (x : List ℕ). get_or x k 0) (get_or-set_other (set m r first) j t second [] n ∙ get_or-set_other m r t first [] f)

    -- of row j, before it is patched
    first_there : (k t : ℕ) → get_or first k 0 ≡ entry_of m r k → entry_of (set m r first) t k ≡ entry_of m t k
    first_there k t e =
        elim (ℕ_discrete t r) [
          | yes d ↦
              ap (λ (s : ℕ). entry_of (set m r first) s k) d ∙ ap (λ (x : List ℕ). get_or x k 0) (get_or-set_same m r first [] hr) ∙ e
              ∙ ap (λ (s : ℕ). entry_of m s k) (sym d)
          | no n ↦ ap (λ (x : List ℕ). get_or x k 0) (get_or-set_other m r t first [] n)
        ]

    elsewhere : (k t : ℕ) → get_or first k 0 ≡ entry_of m r k → get_or second k 0 ≡ entry_of (set m r first) j k
        → entry_of (set (set m r first) j second) t k ≡ entry_of m t k
    elsewhere k t e f =
        elim (ℕ_discrete t j) [
          | yes d ↦
              ap (λ (s : ℕ). entry_of (set (set m r first) j second) s k) d ∙ at_pivot k ∙ f ∙ first_there k j e ∙ ap (λ (s : ℕ). entry_of m s k) (sym d)
          | no n ↦ ap (λ (x : List ℕ). get_or x k 0) (get_or-set_other (set m r first) j t second [] n) ∙ first_there k t e
        ]
