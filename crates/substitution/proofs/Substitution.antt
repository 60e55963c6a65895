-- The steps of substitution and stripping over an array, over plain numbers and lists and any code.
-- Assumes nothing.
use mathlib.Core.Bool.{true, false, not}
use mathlib.Core.List.{List, [], ◌++◌}
use mathlib.Core.Logic.{◌⊎◌, ◌≢◌, inl, inr}
use mathlib.Core.Path.{◌≡◌, refl, sym, ◌∙◌, ap, subst}
use Prim.Native.Nat.{ℕ, zero, suc, ◌+◌, ◌-◌, ◌*◌, ◌/◌, ◌≤◌, ◌<◌}
use native.Mathlib.Decide.{dec_lt, ℕ_discrete}
use native.Mathlib.Nat.{not-suc-le-zero, zero-add, suc-add, suc-mul, mul-le-mul_right, div-mul-le_self, div-lt_iff_lt-mul}
use native.Mathlib.Omega.{arith}
use borrow.Author.Tests.{eqb-true, eqb-false, eq-eqb, ne_eqb, not-true, not-false}
use lib.Dec.{eqb}
use lib.ListN.{length, get_or, take, drop, set, length-drop, get_or-append}
use lib.Seq.{get_or-take, get_or-drop, get_or-set_same, get_or-set_other, get_or-append-add, length-take-le}
use Rattle.algebra.proofs.Elements.{zero_symbol}
use Rattle.algebra.specs.FieldOf.{FieldOf}
use Rattle.definitions.proofs.Tools.{smallest_le, smallest_fails, smallest_passes, smallest_is}
use Rattle.definitions.proofs.Symbols.{append_symbols, replicate_symbols, drop_symbols, take_symbols}
use Rattle.definitions.proofs.Zeros.{is_zero_of_zeros, is_zero_false}
use Rattle.definitions.specs.Code.{Symbols}
use Rattle.definitions.specs.Field.{Code, numbers}
use Rattle.definitions.specs.Polynomial.{is_zero}
use Rattle.definitions.specs.Tools.{smallest}
use Rattle.root_tree.proofs.Arrays.{place_once, place_within, columns_within, columns_beyond, columns_above}
use Rattle.root_tree.proofs.Columns.{substitute_above}
use Rattle.root_tree.proofs.Levels.{strip_at, substitute_cell}
use Rattle.root_tree.proofs.Roots.{zeros_at, columns_symbols}
use Rattle.root_tree.specs.Columns.{columns}
use Rattle.root_tree.specs.Tree.{zeros}
use Rattle.std.specs.List.{AllWithin, HoldsAt}
use Rattle.std.specs.Prelude.{Option, Some, None, MatchOption, unwrap_or}
use Rattle.substitution.specs.Array.{places, polynomial, Shifted, Laid, Spread, Substituted, Freed, is_other}

-- ---- a column laid

module _ (h w a : ℕ) (col l : List ℕ) where
  -- one entry more
  pub laid_more : (b : ℕ) (r : List ℕ) → Laid h w a b col l r → b < h → a + b < w → w * h ≤ length r
      → Laid h w a (b + 1) col l (set r ((a + b) * h + b) (get_or col b 0))
  laid_more b r d hb hw room =
      let i = place_within h (a + b) b w hw hb in
      record {
        hit = λ t p q. elim (ℕ_discrete t b) [
          | yes e ↦
              subst (λ (j : ℕ). get_or (set r ((a + b) * h + b) (get_or col b 0)) ((a + j) * h + j) 0 ≡ get_or col j 0) (sym e)
              (get_or-set_same r ((a + b) * h + b) (get_or col b 0) 0 (omega arith))
          | no n ↦
              get_or-set_other r ((a + b) * h + b) ((a + t) * h + t) (get_or col b 0) 0
              (λ e. n (place_once h (a + t) t (a + b) b (omega arith) hb e).1)
              ∙ d.hit t (omega arith) q
        ];
        miss = λ s t p q n.
            get_or-set_other r ((a + b) * h + b) (s * h + t) (get_or col b 0) 0
            (λ e. let g = place_once h s t (a + b) b q hb e in let g0 = g.0 in let g1 = g.1 in n (omega arith) (omega arith))
            ∙ d.miss s t p q (λ x e. n (omega arith) e);
      }

-- ---- x y for y, column by column

module _ (h w : ℕ) (p : List ℕ) where
  -- before the first column
  pub spread_none : (n : ℕ) → Spread h w 0 p (zeros n)
  spread_none n = record { there = λ s t _ _ _ k. absurd (not-suc-le-zero k); rest = λ s t _ _ _. zeros_at n (s * h + t) }

  -- one column more
  pub spread_more : (a : ℕ) (q r : List ℕ) → Spread h w a p q → Laid h w a h (take h (drop (a * h) p)) q r → Spread h w (a + 1) p r
  spread_more a q r d k =
      record {
        there = λ s t hs ht l m. elim (ℕ_discrete (s - t) a) [
          | yes f ↦
              let g : s ≡ a + t = omega arith in
              subst (λ (j : ℕ). get_or r (j * h + t) 0 ≡ get_or p ((s - t) * h + t) 0) (sym g)
              (k.hit t ht (omega arith) ∙ get_or-take h (drop (a * h) p) t 0 ht ∙ get_or-drop (a * h) p t 0 ∙ ap (λ (j : ℕ). get_or p (j * h + t) 0) (sym f))
          | no n ↦ k.miss s t hs ht (λ _ g. n (omega arith)) ∙ d.there s t hs ht l (omega arith)
        ];
        rest = λ s t hs ht n.
            k.miss s t hs ht (λ _ g. n (omega arith) (omega arith)) ∙ d.rest s t hs ht (λ l m. n l (omega arith));
      }

-- of shifted columns it is substitution
pub spread_shifted : (C : Code) (F : FieldOf C) (h w c : ℕ) (p x q : List ℕ) → c < C.symbols → Symbols C p → Shifted C h w c p x → Spread h w w x q → Substituted C h w c p q
spread_shifted C F h w c p x q hc sp shifted d s t hs ht =
    elim (dec_lt s t) [
      | yes l ↦ d.rest s t hs ht (λ m _. let z : ⊥ = omega arith in z) ∙ sym (substitute_above (numbers C) c (polynomial C h w p) s t l)
      | no n ↦
          let l : t ≤ s = omega arith in
          let within : s - t < w = omega arith in
          d.there s t hs ht l within ∙ sym (columns_within (numbers C) h w x (s - t) t within ht) ∙ shifted (s - t) t within ht
          ∙ sym (substitute_cell C F c hc (polynomial C h w p) (columns_symbols C (zero_symbol C F) h w p sp) s t l)
    ]

-- ---- the first coefficient other than zero

-- where one is found it is the first, and where none is found there is none
pub first_found : (p : List ℕ) (n : ℕ) (r : Option ℕ) → n ≤ length p
    → MatchOption r (AllWithin (λ (x : ℕ). x ≡ 0) (take n p) 0 (length (take n p)))
    (λ i. (i < length (take n p)) × HoldsAt (λ (x : ℕ). x ≢ 0) (take n p) i × AllWithin (λ (x : ℕ). x ≡ 0) (take n p) 0 i)
    → unwrap_or r n ≡ smallest (is_other p) n
first_found p n None room none =
    let long = length-take-le n p room in
    sym (smallest_is (is_other p) n n (omega arith)
    (λ j h. ap not (eq-eqb (get_or p j 0) 0 (sym (get_or-take n p j 0 h) ∙ none j 0 (omega arith) (omega arith))))
    (λ k. let z : ⊥ = omega arith in absurd z))
first_found p n (Some i) room (h, other, before) =
    let long = length-take-le n p room in
    let m : i < n = omega arith in
    sym (smallest_is (is_other p) n i (omega arith)
    (λ j l. ap not (eq-eqb (get_or p j 0) 0 (sym (get_or-take n p j 0 (omega arith)) ∙ before j 0 (omega arith) l)))
    (λ _. ap not (ne_eqb (get_or p i 0) 0 (λ e. other 0 (get_or-take n p i 0 m ∙ e)))))

-- ---- stripping

-- places add up
add-mul : (u s h : ℕ) → (u + s) * h ≡ u * h + s * h
add-mul zero s h = rw (zero-add s) (omega arith)
add-mul (suc u) s h = let e = add-mul u s h in let a = suc-mul u h in let b = suc-mul (u + s) h in rw (suc-add u s) (omega arith)

-- the number of columns
columns_length : (C : Code) (h w : ℕ) (l : List ℕ) → length (polynomial C h w l) ≡ w
unfolding columns
columns_length C h zero l = refl
columns_length C h (suc w) l = ap suc (columns_length C h w (drop h l))

module _ (C : Code) (h w : ℕ) (pos : 0 < h) (p : List ℕ) (full : length p ≡ places) (room : w * h ≤ places) where
  -- the first coefficient other than zero
  abbrev i : ℕ
  i = smallest (is_other p) (w * h)

  -- its column
  abbrev u : ℕ
  u = i / h

  -- that begins no later
  u_low : u * h ≤ i
  u_low = div-mul-le_self i h

  -- and ends after it
  u_high : i < suc u * h
  u_high = (div-lt_iff_lt-mul pos).0 (omega arith)

  -- the columns before it are zero
  before_zero : (a : ℕ) → a < u → is_zero (get_or (polynomial C h w p) a []) ≡ true
  before_zero a l =
      is_zero_of_zeros (get_or (polynomial C h w p) a [])
      (λ t. elim (dec_lt t h) [
        | yes q ↦
            let m : suc a * h ≤ u * h = mul-le-mul_right h l in
            let n = suc-mul a h in
            let b = u_low in
            let k : a * h + t < i = omega arith in
            let s = smallest_le (is_other p) (w * h) in
            let aw : a < w = inside a t k s in
            columns_within (numbers C) h w p a t aw q ∙ eqb-true (get_or p (a * h + t) 0) 0 (not-false (eqb (get_or p (a * h + t) 0) 0) (smallest_fails (is_other p) (w * h) (a * h + t) k))
        | no n ↦ columns_above (numbers C) h w p a t (omega arith)
      ])
    where
      -- a place before it is in a column
      inside : (a t : ℕ) → a * h + t < i → i ≤ w * h → a < w
      inside a t k s =
          elim (dec_lt a w) [
            | yes x ↦ x
            | no n ↦ let m : w * h ≤ a * h = mul-le-mul_right h (omega arith) in let z : ⊥ = omega arith in absurd z
          ]

  -- and it is not, or there is none
  first_other_column : (is_zero (get_or (polynomial C h w p) u []) ≡ false) ⊎ (length (polynomial C h w p) ≤ u)
  first_other_column =
      elim (dec_lt i (w * h)) [
        | yes l ↦
            let b = u_low in
            let d = u_high in
            let m = suc-mul u h in
            let t : ℕ = i - u * h in
            let ht : t < h = omega arith in
            let uw : u < w = (div-lt_iff_lt-mul pos).1 l in
            let e : u * h + t ≡ i = omega arith in
            inl (is_zero_false (get_or (polynomial C h w p) u []) t
            (λ z. eqb-false (get_or p i 0) 0 (not-true (eqb (get_or p i 0) 0) (smallest_passes (is_other p) (w * h) l))
            (ap (λ (j : ℕ). get_or p j 0) (sym e) ∙ sym (columns_within (numbers C) h w p u t uw ht) ∙ z)))
        | no n ↦
            let s = smallest_le (is_other p) (w * h) in
            let d = u_high in
            elim (dec_lt u w) [
              | yes l ↦ let m : suc u * h ≤ w * h = mul-le-mul_right h l in let z : ⊥ = omega arith in absurd z
              | no k ↦ inr (rw (columns_length C h w p) (omega arith))
            ]
      ]

  -- so many entries stand from that column on
  moved_length : length (take (w * h - u * h) (drop (u * h) p)) ≡ w * h - u * h
  moved_length = let low = u_low in let most = smallest_le (is_other p) (w * h) in length-take-le (w * h - u * h) (drop (u * h) p) (rw (length-drop (u * h) p) (omega arith))

  -- the entries from the first column on that is not zero, moved to the front, are what is freed
  moved_freed : (r : List ℕ) → r ≡ take (w * h - u * h) (drop (u * h) p) ++ drop (w * h - u * h) (zeros places) → Freed C h w p r
  moved_freed r e s t =
      elim (dec_lt s w) [
        | yes hs ↦ elim (dec_lt t h) [
          | yes ht ↦
              let j = place_within h s t w hs ht in
              columns_within (numbers C) h w r s t hs ht
              ∙ ap (λ (x : List ℕ). get_or x (s * h + t) 0) e
              ∙ elim (dec_lt (u + s) w) [
                | yes k ↦
                    let a = place_within h (u + s) t w k ht in
                    let b : (u + s) * h ≡ u * h + s * h = add-mul u s h in
                    let f : s * h + t < length (take (w * h - u * h) (drop (u * h) p)) = rw moved_length (omega arith) in
                    get_or-append (take (w * h - u * h) (drop (u * h) p)) (drop (w * h - u * h) (zeros places)) 0 (s * h + t) f
                    ∙ get_or-take (w * h - u * h) (drop (u * h) p) (s * h + t) 0 (omega arith) ∙ get_or-drop (u * h) p (s * h + t) 0
                    ∙ ap (λ (n : ℕ). get_or p n 0) (omega arith) ∙ sym (columns_within (numbers C) h w p (u + s) t k ht)
                | no n ↦
                    let a : w * h ≤ (u + s) * h = mul-le-mul_right h (omega arith) in
                    let b : (u + s) * h ≡ u * h + s * h = add-mul u s h in
                    let m : ℕ = s * h + t - (w * h - u * h) in
                    let g : s * h + t ≡ length (take (w * h - u * h) (drop (u * h) p)) + m = rw moved_length (omega arith) in
                    ap (λ (n : ℕ). get_or (take (w * h - u * h) (drop (u * h) p) ++ drop (w * h - u * h) (zeros places)) n 0) g
                    ∙ get_or-append-add (take (w * h - u * h) (drop (u * h) p)) (drop (w * h - u * h) (zeros places)) m 0
                    ∙ get_or-drop (w * h - u * h) (zeros places) m 0 ∙ zeros_at places (w * h - u * h + m)
                    ∙ sym (columns_beyond (numbers C) h w p (u + s) t (omega arith))
              ]
              ∙ sym (strip_at C (polynomial C h w p) u before_zero first_other_column s t)
          | no n ↦
              columns_above (numbers C) h w r s t (omega arith)
              ∙ sym (strip_at C (polynomial C h w p) u before_zero first_other_column s t ∙ columns_above (numbers C) h w p (u + s) t (omega arith))
        ]
        | no n ↦
            columns_beyond (numbers C) h w r s t (omega arith)
            ∙ sym (strip_at C (polynomial C h w p) u before_zero first_other_column s t ∙ columns_beyond (numbers C) h w p (u + s) t (omega arith))
      ]

  -- and so they are where the first entry other than zero was found, or none
  pub freed_moved : (first : ℕ) (r : List ℕ) → first ≡ i
      → (let moved = take (w * h - first / h * h) (drop (first / h * h) p) in r ≡ moved ++ drop (length moved) (zeros places)) → Freed C h w p r
  freed_moved first r e m =
      let same = subst (λ (j : ℕ). let moved = take (w * h - j / h * h) (drop (j / h * h) p) in r ≡ moved ++ drop (length moved) (zeros places)) e m in
      moved_freed r (same ∙ ap (λ (n : ℕ). take (w * h - u * h) (drop (u * h) p) ++ drop n (zeros places)) moved_length)

module _ (C : Code) (F : FieldOf C) where
  -- zeros are symbols
  pub zeros_symbols : (n : ℕ) → Symbols C (zeros n)
  unfolding zeros
  zeros_symbols n = replicate_symbols C n 0 (zero_symbol C F)

  -- entries copied to the front of zeros are symbols
  pub copied_symbols : (p r : List ℕ) (n from k size : ℕ) → r ≡ take n (drop from p) ++ drop k (zeros size) → Symbols C p → Symbols C r
  copied_symbols p r n from k size e s =
      subst (Symbols C) (sym e)
      (append_symbols C (take n (drop from p)) (drop k (zeros size)) (take_symbols C (zero_symbol C F) n (drop from p) (drop_symbols C from p s))
      (drop_symbols C k (zeros size) (zeros_symbols size)))
