-- A step of the elimination by blocks: two rows change places, and the rows listed lose a multiple of the pivot row.
-- Assumes nothing.
use mathlib.Core.List.{List, []}
use mathlib.Core.Path.{◌≡◌, sym, ◌∙◌, ap, subst}
use Prim.Native.Nat.{ℕ, ◌+◌, ◌*◌, ◌/◌, ◌-◌, ◌≤◌, ◌<◌}
use native.Mathlib.Decide.{ℕ_discrete}
use native.Mathlib.Numerals.{add-one}
use native.Mathlib.Omega.{arith}
use lib.ListN.{length, get_or, set, length-set}
use lib.Seq.{get_or-set_same, get_or-set_other}
use Rattle.algebra.proofs.Elements.{plus_symbol, times_symbol}
use Rattle.algebra.specs.FieldOf.{FieldOf}
use Rattle.algebra.specs.Grid.{entry_of, Patched}
use Rattle.definitions.specs.Code.{Symbols}
use Rattle.definitions.specs.Field.{Code, numbers}
use Rattle.pivots.specs.System.{System, ExchangedIn, column_of, ListedRows, TargetRows, Factors, DoneIn, LoweredIn, Eliminated}
use Rattle.linear.proofs.Columns.{exchanged_block, between_more, patched_symbols, blocks_solutions, blocks_triangle}
use Rattle.linear.proofs.Listed.{done_row, done_lowered, listed_targets}
use Rattle.linear.specs.Columns.{Between, Exchanged, Lowered, Listed}
use Rattle.linear.specs.Rows.{Triangle}
use Rattle.blocks.proofs.Blocks.{block_symbols, scaled_symbols}
use Rattle.blocks.specs.Row.{width, block, SymbolBlock, BlockOf, PutBlock, AddedBlock, ScaledBlock, MultiplesBlock}

module _ (C : Code) where
  -- a row of symbols of its width is put in
  pub system_set : (m : List (List ℕ)) (t : ℕ) (row : List ℕ) → System C m → t < length m → length row ≡ width → Symbols C row → System C (set m t row)
  system_set m t row s h e sr = record {
    wide = λ a l. elim (ℕ_discrete a t) [
      | yes d ↦ ap (λ (x : ℕ). length (get_or (set m t row) x [])) d ∙ ap length (get_or-set_same m t row [] h) ∙ e
      | no n ↦ ap length (get_or-set_other m t a row [] n) ∙ s.wide a (let z = length-set m t row in omega arith)
    ];
    symbols = λ a. elim (ℕ_discrete a t) [
      | yes d ↦ subst (λ (x : ℕ). Symbols C (get_or (set m t row) x [])) (sym d) (subst (Symbols C) (sym (get_or-set_same m t row [] h)) sr)
      | no n ↦ subst (Symbols C) (sym (get_or-set_other m t a row [] n)) (s.symbols a)
    ];
  }

  -- a block of symbols is put into a row
  put_system : (m : List (List ℕ)) (t at : ℕ) (part row : List ℕ) → System C m → t < length m → SymbolBlock C part → PutBlock at part (get_or m t []) row
      → System C (set m t row)
  put_system m t at part row s h sp p =
      system_set m t row s h (p.size ∙ s.wide t h)
      (patched_symbols C at (at + block) _ _ _ p.patched (λ k l g. sp (k - at) (omega arith)) (s.symbols t))

-- the place in the block
place : (at k : ℕ) → at ≤ k → at + (k - at) ≡ k
place at k l = omega arith

-- ---- two rows change places

-- row j is put in place of row r
pub exchanged_once : (C : Code) (at r j : ℕ) (m : List (List ℕ)) (other one : List ℕ) → System C m → r < length m → BlockOf at (get_or m j []) other
    → PutBlock at other (get_or m r []) one → System C (set m r one)
exchanged_once C at r j m other one s hr is_other put_one =
    put_system C m r at other one s hr (block_symbols C at (get_or m j []) other (s.symbols j) is_other) put_one

-- and row r, scaled, in place of row j
pub exchanged_in : (C : Code) → FieldOf C → (at r j u : ℕ) (m : List (List ℕ)) (part other first one two : List ℕ) → System C m → r < length m → j < length m
    → u < C.symbols → BlockOf at (get_or m r []) part → BlockOf at (get_or m j []) other → ScaledBlock C u part first → PutBlock at other (get_or m r []) one
    → PutBlock at first (get_or (set m r one) j []) two → ExchangedIn C at (at + block) r j u m (set (set m r one) j two)
exchanged_in C F at r j u m part other first one two s hr hj hu is_part is_other is_first put_one put_two = record {
  size = length-set (set m r one) j two ∙ length-set m r one;
  system = put_system C (set m r one) j at first two (exchanged_once C at r j m other one s hr is_other put_one) (let e = length-set m r one in omega arith)
      (scaled_symbols C F u part first hu (block_symbols C at (get_or m r []) part (s.symbols r) is_part) is_first) put_two;
  columns = exchanged_block C at (at + block) m r j u one two hr hj
      (record {
        inside = λ k l h. put_one.patched.inside k l h ∙ is_other (k - at) (omega arith) ∙ ap (entry_of m j) (place at k l);
        before = put_one.patched.before;
        after = put_one.patched.after;
      })
      (record {
        inside = λ k l h. put_two.patched.inside k l h ∙ is_first (k - at) (omega arith)
            ∙ ap (C.times u) (is_part (k - at) (omega arith) ∙ ap (entry_of m r) (place at k l));
        before = put_two.patched.before;
        after = put_two.patched.after;
      });
}

module _ (C : Code) where
  -- in one block more
  pub exchange_more : (p q r j u : ℕ) (o m b : List (List ℕ)) → q ≤ p → ExchangedIn C (q * block) (p * block) r j u o m
      → ExchangedIn C (p * block) (p * block + block) r j u m b → ExchangedIn C (q * block) ((p + 1) * block) r j u o b
  exchange_more p q r j u o m b h d e =
      let f : p * block + block ≡ (p + 1) * block = omega arith in
      record {
        size = e.size ∙ d.size;
        system = e.system;
        columns = subst (λ (n : ℕ). Between (Exchanged (numbers C) r j u) (q * block) n (entry_of o) (entry_of b)) f
            (between_more (Exchanged (numbers C) r j u) (q * block) (p * block) (p * block + block) (entry_of o) (entry_of m) (entry_of b) (omega arith) (omega arith)
            d.columns e.columns);
      }

-- ---- the rows listed, in some columns

-- a row has lost x times another in some columns
abbrev pub Less : Code → ℕ → ℕ → ℕ → List ℕ → List ℕ → List ℕ → Type 0
Less C from to x first old new = Patched from to (λ (k : ℕ). C.plus (get_or old k 0) (C.times x (get_or first k 0))) (λ (k : ℕ). get_or old k 0) (λ (k : ℕ). get_or new k 0)

-- in one block
pub less_block : (C : Code) (at x : ℕ) (row first old new : List ℕ) (times : List (List ℕ)) → x < C.symbols → BlockOf at row first → MultiplesBlock C C.symbols first times
    → AddedBlock C.plus at (get_or times x []) old new → Less C at (at + block) x row old new
less_block C at x row first old new times hx is_first is_times added = record {
  inside = λ k l g.
      added.patched.inside k l g
      ∙ ap (C.plus (get_or old k 0)) (is_times x hx (k - at) (omega arith) ∙ ap (C.times x) (is_first (k - at) (omega arith) ∙ ap (λ (i : ℕ). get_or row i 0) (place at k l)));
  before = added.patched.before;
  after = added.patched.after;
}

-- one more is done
pub rows_done : (C : Code) → FieldOf C → (from to j : ℕ) (places c : List ℕ) (n total : ℕ) (o m : List (List ℕ)) (t x : ℕ) (row : List ℕ) → n < total → System C o
    → TargetRows (length o) j total places → DoneIn C from to j n places c o m → t ≡ get_or places n 0 → x ≡ get_or c n 0 → x < C.symbols → length row ≡ width
    → Less C from to x (get_or o j []) (get_or m t []) row → DoneIn C from to j (n + 1) places c o (set m t row)
rows_done C F from to j places c n total o m t x row h so targets d et ex hx size less = record {
  size = length-set m t row ∙ d.size;
  system = system_set C m t row d.system room size
      (patched_symbols C from to _ _ _ less
      (λ k l g. plus_symbol C F (entry_of m t k) (C.times x (entry_of o j k)) (d.system.symbols t k) (times_symbol C F x (entry_of o j k) hx (so.symbols j k))) (d.system.symbols t));
  done = done_row C from to j (λ (i : ℕ). get_or places i 0) (λ (i : ℕ). get_or c i 0) (length o) n total o m t row targets h d.done et room
      (record {
        inside = λ k l g. less.inside k l g ∙ ap (λ (y : ℕ). C.plus (entry_of m t k) (C.times y (entry_of o j k))) ex;
        before = less.before;
        after = less.after;
      });
}
  where
    room : t < length m
    room = let f = targets.within n h in let e = d.size in omega arith

module _ (C : Code) where
  -- what is listed may be cleared
  pub listed_rows : (R L j n : ℕ) (m : List (List ℕ)) (places c : List ℕ) → R ≤ L → System C m → ListedRows R j n m places c → TargetRows L j n places × Factors C n c
  listed_rows R L j n m places c h s l =
      (listed_targets R L j n _ _ _ h l, λ i g. subst (λ (x : ℕ). x < C.symbols) (sym (l.factor i g)) (s.symbols (get_or places i 0) j))

-- in more columns
pub lower_more : (C : Code) → FieldOf C → (from mid to R j n : ℕ) (x : ℕ → ℕ) (places c : List ℕ) (o m b : List (List ℕ)) → from ≤ mid → mid ≤ to
    → Listed R j n x (λ i. get_or places i 0) (λ i. get_or c i 0) → LoweredIn C from mid R j x o m → DoneIn C mid to j n places c m b → LoweredIn C from to R j x o b
lower_more C F from mid to R j n x places c o m b low high listed d e = record {
  size = e.size ∙ d.size;
  system = e.system;
  columns = between_more (Lowered (numbers C) R j x) from mid to (entry_of o) (entry_of m) (entry_of b) low high d.columns
      (done_lowered C mid to j (λ i. get_or places i 0) (λ i. get_or c i 0) F R n x (entry_of m) (entry_of b) (λ t k. d.system.symbols t k) listed e.done);
}

-- in one block more
pub lower_block : (C : Code) → FieldOf C → (p q R j n : ℕ) (x : ℕ → ℕ) (places c : List ℕ) (o m b : List (List ℕ)) → q ≤ p
    → Listed R j n x (λ i. get_or places i 0) (λ i. get_or c i 0) → LoweredIn C (q * block) (p * block) R j x o m
    → DoneIn C (p * block) (p * block + block) j n places c m b → LoweredIn C (q * block) ((p + 1) * block) R j x o b
lower_block C F p q R j n x places c o m b h listed d e =
    let f : p * block + block ≡ (p + 1) * block = omega arith in
    subst (λ (k : ℕ). LoweredIn C (q * block) k R j x o b) f
    (lower_more C F (q * block) (p * block) (p * block + block) R j n x places c o m b (omega arith) (omega arith) listed d e)

-- ---- the step

-- both make the triangle one column larger, and keep the solutions
pub block_step : (C : Code) → FieldOf C → (rows blocks u r j : ℕ) (m e b : List (List ℕ)) → System C m → u < C.symbols → C.times u (entry_of m r j) ≡ 1
    → j ≤ r → r < rows → j < blocks * block → Triangle rows j m → ExchangedIn C (j / block * block) (blocks * block) r j u m e
    → LoweredIn C (j / block * block) (blocks * block) rows j (column_of e j) e b → Eliminated C rows (blocks * block) (j + 1) m b
block_step C F rows blocks u r j m e b s hu one low hr room columns x y =
    let start : j / block * block ≤ j = omega arith in
    record {
      size = y.size ∙ x.size;
      system = y.system;
      same = blocks_solutions C F rows (blocks * block) (j / block * block) m e b r j u s.symbols y.system.symbols hu low hr start room columns x.columns y.columns one;
      triangle = subst (λ (n : ℕ). Triangle rows n b) (sym (add-one j))
          (blocks_triangle C F rows (blocks * block) (j / block * block) m e b r j u s.symbols y.system.symbols hu low hr start room columns x.columns y.columns one);
    }
