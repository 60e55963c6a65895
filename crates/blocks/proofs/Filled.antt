-- The laws of rows that are filled from the front.
-- Assumes nothing.
use mathlib.Core.List.{List, ◌++◌, map}
use mathlib.Core.Path.{◌≡◌, sym, ◌∙◌, ap}
use Prim.Native.Nat.{ℕ, ◌+◌, ◌-◌, ◌≤◌, ◌<◌}
use native.Mathlib.Decide.{dec_lt}
use native.Mathlib.Omega.{arith}
use lib.ListN.{length, drop, get_or, set, replicate, length-append, length-drop, length-set, length-replicate, get_or-append}
use lib.Seq.{get_or-append-add, get_or-drop, get_or-set_other, ext_get_or}
use Rattle.algebra.proofs.Elements.{zero_symbol}
use Rattle.algebra.specs.FieldOf.{FieldOf}
use Rattle.definitions.proofs.Tools.{length_map_below, map_below_at}
use Rattle.definitions.proofs.Zeros.{zero_at}
use Rattle.definitions.specs.Code.{Symbols}
use Rattle.definitions.specs.Field.{Code}
use Rattle.definitions.specs.Tools.{below}
use Rattle.blocks.proofs.Blocks.{front_none, front_more, front_block}
use Rattle.blocks.specs.Row.{width, block, ZeroFrom, Front, PutBlock, filled}

-- behind the first n entries of a row, which others replace, it is as it was
behind : (front row : List ℕ) (n k : ℕ) → length front ≡ n → n ≤ k → get_or (front ++ drop n row) k 0 ≡ get_or row k 0
behind front row n k e h =
    let place : k ≡ length front + (k - n) = omega arith in
    let back : n + (k - n) ≡ k = omega arith in
    ap (λ (j : ℕ). get_or (front ++ drop n row) j 0) place ∙ get_or-append-add front (drop n row) (k - n) 0 ∙ get_or-drop n row (k - n) 0
    ∙ ap (λ (j : ℕ). get_or row j 0) back

module _ (f : ℕ → ℕ) where
  -- a row has `width` entries
  pub length_filled : (n : ℕ) → n ≤ width → length (filled n f) ≡ width
  unfolding filled
  length_filled n h =
      let e = length_map_below f n in
      let d = length-drop {A = ℕ} n (replicate width 0) in
      length-append (map f (below n)) (drop n (replicate width 0)) ∙ omega arith

  -- entry k, where it is filled
  pub filled_at : (n k : ℕ) → k < n → get_or (filled n f) k 0 ≡ f k
  unfolding filled
  filled_at n k h =
      let e = length_map_below f n in
      get_or-append (map f (below n)) (drop n (replicate width 0)) 0 k (omega arith) ∙ map_below_at f n k 0 h

  -- and where it is not
  pub filled_rest : (n k : ℕ) → n ≤ k → get_or (filled n f) k 0 ≡ 0
  unfolding filled
  filled_rest n k h = behind (map f (below n)) (replicate width 0) n k (length_map_below f n) h ∙ zero_at width k

  -- behind which the row is zero
  pub filled_zeros : (n : ℕ) → n ≤ width → ZeroFrom n (filled n f)
  filled_zeros n h = record { wide = length_filled n h; zeros = filled_rest n }

-- a row of zeros
pub zeros_from : (n : ℕ) → ZeroFrom n (replicate width 0)
zeros_from n = record { wide = length-replicate {A = ℕ} width 0; zeros = λ k _. zero_at width k }

-- a row of which i of n entries are filled in, and which is zero behind the n
pub record Filling (n i : ℕ) (f : ℕ → ℕ) (row : List ℕ) : Type 0 where
  pub rest : ZeroFrom n row
  pub front : Front i f row

module _ (n : ℕ) (f : ℕ → ℕ) where
  -- none is filled in yet
  pub filling_none : (row : List ℕ) → ZeroFrom n row → Filling n 0 f row
  filling_none row z = record { rest = z; front = front_none f row }

  -- one more
  pub filling_more : (i x : ℕ) (row : List ℕ) → i < n → n ≤ width → Filling n i f row → x ≡ f i → Filling n (i + 1) f (set row i x)
  filling_more i x row l h r e = record {
    rest = record {
      wide = length-set row i x ∙ r.rest.wide;
      zeros = λ k b. get_or-set_other row i k x 0 (λ same. omega arith) ∙ r.rest.zeros k b;
    };
    front = front_more i x f row (let w = r.rest.wide in omega arith) r.front e;
  }

  -- a block more
  pub filling_block : (i : ℕ) (part old new : List ℕ) → i + block ≤ n → PutBlock i part old new → Filling n i f old → Front block (λ k. f (i + k)) part
      → Filling n (i + block) f new
  filling_block i part old new h put r is = record {
    rest = record { wide = put.size ∙ r.rest.wide; zeros = λ k b. put.patched.after k (omega arith) ∙ r.rest.zeros k b };
    front = front_block i part old new put f r.front is;
  }

  -- all of them
  pub filling_whole : (row : List ℕ) → n ≤ width → Filling n n f row → row ≡ filled n f
  filling_whole row h r =
      ext_get_or 0 row (filled n f) (r.rest.wide ∙ sym (length_filled f n h)) (λ k _. elim (dec_lt k n) [
        | yes l ↦ r.front k l ∙ sym (filled_at f n k l)
        | no l ↦ r.rest.zeros k (omega arith) ∙ sym (filled_rest f n k (omega arith))
      ])

-- of symbols it is a row of symbols
pub filled_symbols : (C : Code) → FieldOf C → (f : ℕ → ℕ) (n : ℕ) → ((k : ℕ) → k < n → f k < C.symbols) → Symbols C (filled n f)
filled_symbols C F f n s k =
    elim (dec_lt k n) [
      | yes h ↦ rw (filled_at f n k h) (s k h)
      | no l ↦ rw (filled_rest f n k (omega arith)) (zero_symbol C F)
    ]
