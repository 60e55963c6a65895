-- The loops over one block of a row, and the multiples of a block by doubling and adding.
-- Assumes nothing.
use mathlib.Core.List.{List, []}
use mathlib.Core.Path.{◌≡◌, refl, sym, ◌∙◌, ap, ap₂, subst}
use Prim.Native.Nat.{ℕ, ◌+◌, ◌*◌, ◌-◌, ◌<◌}
use native.Mathlib.Decide.{dec_lt, ℕ_discrete}
use native.Mathlib.Omega.{arith}
use lib.ListN.{length, get_or, set, replicate, length-set, get_or-replicate}
use lib.Seq.{get_or-set_same, get_or-set_other}
use Rattle.algebra.proofs.Elements.{zero_symbol, times_symbol, times_grouped, times_joined, once_times, none_times}
use Rattle.algebra.specs.FieldOf.{FieldOf}
use Rattle.definitions.proofs.Zeros.{zero_at}
use Rattle.definitions.specs.Code.{Symbols}
use Rattle.definitions.specs.Field.{Code}
use Rattle.blocks.specs.Row.{block, Front, SymbolBlock, BlockOf, Changed, PutBlock, ScaledBlock, FilledTo, MultiplesBlock}

-- no entry yet
pub front_none : (f : ℕ → ℕ) (l : List ℕ) → Front 0 f l
front_none f l k h = let z : ⊥ = omega arith in absurd z

-- one more
pub front_more : (n x : ℕ) (f : ℕ → ℕ) (l : List ℕ) → n < length l → Front n f l → x ≡ f n → Front (n + 1) f (set l n x)
front_more n x f l h d e k g =
    elim (ℕ_discrete k n) [
      | yes i ↦ ap (λ (a : ℕ). get_or (set l n x) a 0) i ∙ get_or-set_same l n x 0 h ∙ e ∙ ap f (sym i)
      | no i ↦ get_or-set_other l n k x 0 i ∙ d k (omega arith)
    ]

-- nothing is changed yet
pub changed_none : (at : ℕ) (f : ℕ → ℕ) (old : List ℕ) → Changed at 0 f old old
changed_none at f old = record {
  size = refl;
  patched = record { inside = λ k l h. let z : ⊥ = omega arith in absurd z; before = λ k h. refl; after = λ k h. refl };
}

-- one entry more
pub changed_more : (at n x : ℕ) (f : ℕ → ℕ) (old new : List ℕ) → at + n < length old → Changed at n f old new → x ≡ f (at + n) → Changed at (n + 1) f old (set new (at + n) x)
changed_more at n x f old new h d is = record {
  size = length-set new (at + n) x ∙ d.size;
  patched = record {
    inside = λ k l g. elim (ℕ_discrete k (at + n)) [
      | yes e ↦ ap (λ (a : ℕ). get_or (set new (at + n) x) a 0) e ∙ get_or-set_same new (at + n) x 0 (let s = d.size in omega arith) ∙ is ∙ ap f (sym e)
      | no e ↦ get_or-set_other new (at + n) k x 0 e ∙ d.patched.inside k l (omega arith)
    ];
    before = λ k l. get_or-set_other new (at + n) k x 0 (λ e. omega arith) ∙ d.patched.before k l;
    after = λ k l. get_or-set_other new (at + n) k x 0 (λ e. omega arith) ∙ d.patched.after k (omega arith);
  };
}

-- a block more
pub front_block : (n : ℕ) (part old new : List ℕ) → PutBlock n part old new → (f : ℕ → ℕ) → Front n f old → Front block (λ k. f (n + k)) part → Front (n + block) f new
front_block n part old new put f front is k h =
    elim (dec_lt k n) [
      | yes l ↦ put.patched.before k l ∙ front k l
      | no l ↦ let here : n + (k - n) ≡ k = omega arith in put.patched.inside k (omega arith) h ∙ is (k - n) (omega arith) ∙ ap f here
    ]

-- ---- blocks of symbols

-- a block of a row of symbols is one
pub block_symbols : (C : Code) (at : ℕ) (row a : List ℕ) → Symbols C row → BlockOf at row a → SymbolBlock C a
block_symbols C at row a s e k l = subst (λ (x : ℕ). x < C.symbols) (sym (e k l)) (s (at + k))

-- so is a multiple of one
pub scaled_symbols : (C : Code) → FieldOf C → (u : ℕ) (a r : List ℕ) → u < C.symbols → SymbolBlock C a → ScaledBlock C u a r → SymbolBlock C r
scaled_symbols C F u a r h sa e k l = subst (λ (x : ℕ). x < C.symbols) (sym (e k l)) (times_symbol C F u (get_or a k 0) h (sa k l))

-- ---- multiples

-- a number below h, with h added, is h more: so it is of bits, for h a power of two
abbrev pub Joins : Code → ℕ → Type 0
Joins C h = (c : ℕ) → c < h → C.plus c h ≡ h + c

module _ (C : Code) (F : FieldOf C) where
  -- once a block is the block
  pub scaled_once : (a : List ℕ) → SymbolBlock C a → ScaledBlock C 1 a a
  scaled_once a sa k l = sym (once_times C F (get_or a k 0) (sa k l))

  -- u times the multiple h of a block is its multiple by u times h
  pub scaled_again : (u h n : ℕ) (a b r : List ℕ) → u < C.symbols → h < C.symbols → C.times u h ≡ n → SymbolBlock C a
      → ScaledBlock C h a b → ScaledBlock C u b r → ScaledBlock C n a r
  scaled_again u h n a b r hu hh is sa e f k l =
      f k l ∙ ap (C.times u) (e k l) ∙ times_grouped C F u h (get_or a k 0) hu hh (sa k l) ∙ ap (λ (i : ℕ). C.times i (get_or a k 0)) is

  -- the multiple 0 is a block of zeros
  pub multiples_first : (n : ℕ) → 0 < n → (a : List ℕ) → SymbolBlock C a → MultiplesBlock C 1 a (replicate n (replicate block 0))
  multiples_first n pos a sa c h k l =
      let z : c ≡ 0 = omega arith in
      let some = zero_symbol C F in
      ap (λ (r : List ℕ). get_or r k 0) (get_or-replicate n c (replicate block 0) [] (omega arith)) ∙ zero_at block k
      ∙ sym (ap (λ (n : ℕ). C.times n (get_or a k 0)) z ∙ none_times C F (get_or a k 0) (sa k l))

  -- where the multiples below h are there, those below twice h come of them
  pub multiples_filled : (h : ℕ) (a high : List ℕ) (old new : List (List ℕ)) → h < C.symbols → Joins C h → SymbolBlock C a → MultiplesBlock C h a old
      → ScaledBlock C h a high → FilledTo C.plus h h high old new → MultiplesBlock C (h * 2) a new
  multiples_filled h a high old new hh join sa m e f c l k g =
      elim (dec_lt c h) [
        | yes low ↦ ap (λ (r : List ℕ). get_or r k 0) (f.below c low) ∙ m c low k g
        | no n ↦
            let here : c - h < h = omega arith in
            let is : h + (c - h) ≡ c = omega arith in
            let symbol : c - h < C.symbols = omega arith in
            ap (λ (i : ℕ). get_or (get_or new i []) k 0) (sym is) ∙ f.sums (c - h) here k g ∙ ap₂ C.plus (m (c - h) here k g) (e k g)
            ∙ times_joined C F (c - h) h (get_or a k 0) symbol hh (sa k g) ∙ ap (λ (i : ℕ). C.times i (get_or a k 0)) (join (c - h) here ∙ is)
      ]
