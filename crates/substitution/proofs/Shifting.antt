-- The steps of the loops that shift all columns of an array in place.
-- Assumes nothing.
use mathlib.Core.Bool.{Bool, true, false, cond}
use mathlib.Core.List.{List, []}
use mathlib.Core.Logic.{◌≢◌}
use mathlib.Core.Path.{◌≡◌, refl, sym, ◌∙◌, ap, ap₂, subst}
use Prim.Native.Nat.{ℕ, suc, ◌+◌, ◌*◌, ◌^◌, ◌≤◌, ◌<◌}
use native.Mathlib.Decide.{dec_lt, ℕ_discrete}
use native.Mathlib.Omega.{arith}
use lib.Bits.{bit_and}
use lib.Dec.{eqb}
use lib.ListN.{length, get_or, drop, set}
use lib.Seq.{get_or-set_same, get_or-set_other}
use Rattle.algebra.proofs.Elements.{zero_symbol, plus_none, times_none}
use Rattle.algebra.specs.FieldOf.{FieldOf}
use Rattle.definitions.specs.Code.{Symbols}
use Rattle.definitions.specs.Field.{Code, numbers}
use Rattle.root_tree.proofs.Arrays.{place_once, place_within, take_short, columns_within, columns_above, columns_at}
use Rattle.root_tree.proofs.Folding.{Left, left_more, left_none}
use Rattle.root_tree.proofs.Roots.{columns_symbols}
use Rattle.root_tree.specs.Columns.{coefficient}
use Rattle.root_tree.specs.Fold.{folded}
use Rattle.substitution.specs.Array.{polynomial, Added, Folded, Shifted}

-- ---- a multiple of one entry added to another, column by column

module _ (C : Code) (h w to from c : ℕ) (l : List ℕ) where
  -- in one column more
  pub added_more : (a y : ℕ) (r : List ℕ) → Added C h w a to from c l r → a < w → to < h → from < h → to ≢ from → w * h ≤ length r
      → y ≡ C.plus (get_or r (a * h + to) 0) (C.times c (get_or r (a * h + from) 0)) → Added C h w (a + 1) to from c l (set r (a * h + to) y)
  added_more a y r d ha ht hf differ room e =
      let i = place_within h a to w ha ht in
      record {
        hit = λ b p. elim (ℕ_discrete b a) [
          | yes k ↦
              subst (λ (j : ℕ). get_or (set r (a * h + to) y) (j * h + to) 0 ≡ C.plus (get_or l (j * h + to) 0) (C.times c (get_or l (j * h + from) 0))) (sym k)
              (get_or-set_same r (a * h + to) y 0 (omega arith) ∙ e
              ∙ ap₂ (λ (x z : ℕ). C.plus x (C.times c z)) (d.miss a to ha ht (λ m _. let z : ⊥ = omega arith in z)) (d.miss a from ha hf (λ m _. let z : ⊥ = omega arith in z)))
          | no n ↦ get_or-set_other r (a * h + to) (b * h + to) y 0 (λ k. n (place_once h b to a to ht ht k).0) ∙ d.hit b (omega arith)
        ];
        miss = λ b t p q n.
            get_or-set_other r (a * h + to) (b * h + t) y 0
            (λ k. let g = place_once h b t a to q ht k in let g0 = g.0 in n (omega arith) g.1)
            ∙ d.miss b t p q (λ m k. n (omega arith) k);
      }

-- ---- a fold, entry by entry

module _ (C : Code) (h w bit c : ℕ) (l : List ℕ) where
  -- the entries before n are folded
  pub record FoldedTo (n : ℕ) (r : List ℕ) : Type 0 where
    pub done : (a t : ℕ) → a < w → t < n → t < h → get_or r (a * h + t) 0 ≡ folded (numbers C) bit c (λ j. get_or l (a * h + j) 0) t
    pub rest : (a t : ℕ) → a < w → n ≤ t → t < h → get_or r (a * h + t) 0 ≡ get_or l (a * h + t) 0

  -- where nothing is added, an entry stays
  stays : (F : FieldOf C) → c < C.symbols → (x y : ℕ) → x < C.symbols → y ≡ 0 → (b : Bool) → cond b (C.plus x (C.times c y)) x ≡ x
  stays F hc x y hx e true = ap (λ (z : ℕ). C.plus x (C.times c z)) e ∙ ap (C.plus x) (times_none C F c hc) ∙ plus_none C F x hx
  stays F hc x y hx e false = refl

  -- the last entries have none after them that has the bit
  pub folded_all : (F : FieldOf C) → c < C.symbols → Symbols C l → (n : ℕ) (r : List ℕ) → n + bit ≡ h → FoldedTo n r → Folded C h w bit c l r
  folded_all F hc sl n r whole d a t ha =
      elim (dec_lt t n) [
        | yes before ↦
            columns_within (numbers C) h w r a t ha (omega arith) ∙ d.done a t ha before (omega arith)
            ∙ ap₂ (λ (x y : ℕ). cond (eqb (bit_and t bit) 0) (C.plus x (C.times c y)) x) (sym (columns_within (numbers C) h w l a t ha (omega arith)))
            (sym (columns_within (numbers C) h w l a (t + bit) ha (omega arith)))
        | no after ↦
            elim (dec_lt t h) [
              | yes within ↦ columns_within (numbers C) h w r a t ha within ∙ d.rest a t ha (omega arith) within ∙ sym (columns_within (numbers C) h w l a t ha within)
              | no above ↦ columns_above (numbers C) h w r a t (omega arith) ∙ sym (columns_above (numbers C) h w l a t (omega arith))
            ]
            ∙ sym (stays F hc (coefficient (numbers C) (polynomial C h w l) a t) (coefficient (numbers C) (polynomial C h w l) a (t + bit))
            (columns_symbols C (zero_symbol C F) h w l sl a t) (columns_above (numbers C) h w l a (t + bit) (omega arith)) (eqb (bit_and t bit) 0))
      ]

-- ---- fold after fold

module _ (C : Code) (F : FieldOf C) (h w g : ℕ) (l : List ℕ) where
  -- what is left to be shifted of each column
  abbrev pub LeftOf : ℕ → ℕ → List ℕ → Type 0
  LeftOf bit c r =
      (a : ℕ) → a < w → Left C F (suc h) g (coefficient (numbers C) (polynomial C h w l) a) bit c (coefficient (numbers C) (polynomial C h w r) a)

  -- one fold more
  pub left_of_more : (k bit c : ℕ) (r q : List ℕ) → bit ≡ 2 ^ k → c < C.symbols → Symbols C r → Folded C h w bit c r q → LeftOf bit c r → LeftOf (bit * 2) (C.times c c) q
  left_of_more k bit c r q e hc sr =
      subst (λ (n : ℕ). Folded C h w n c r q → LeftOf n c r → LeftOf (n * 2) (C.times c c) q) (sym e)
      (λ f left a ha.
      subst (λ (n : ℕ). Left C F (suc h) g (coefficient (numbers C) (polynomial C h w l) a) n (C.times c c) (coefficient (numbers C) (polynomial C h w q) a))
      (let d : 2 * 2 ^ k ≡ 2 ^ k * 2 = omega arith in d)
      (left_more C F (suc h) g c k hc (coefficient (numbers C) (polynomial C h w l) a) (coefficient (numbers C) (polynomial C h w r) a)
      (columns_symbols C (zero_symbol C F) h w r sr a) (λ t m. columns_above (numbers C) h w r a t (omega arith))
      (coefficient (numbers C) (polynomial C h w q) a) (λ t. f a t ha) (left a ha)))

  -- none
  pub left_of_none : g < C.symbols → Symbols C l → (bit c : ℕ) (r : List ℕ) → h ≤ bit → Symbols C r → LeftOf bit c r → Shifted C h w g l r
  left_of_none hg sl bit c r high sr left a t ha ht =
      left_none C F h g hg (get_or (polynomial C h w l) a []) (columns_symbols C (zero_symbol C F) h w l sl a)
      (subst (λ (x : List ℕ). length x ≤ suc h) (sym (columns_at (numbers C) h w l a ha)) (let s = take_short h (drop (a * h) l) in omega arith)) bit c
      (coefficient (numbers C) (polynomial C h w r) a) (columns_symbols C (zero_symbol C F) h w r sr a) (λ m k. columns_above (numbers C) h w r a m (omega arith))
      (left a ha) t (omega arith)
