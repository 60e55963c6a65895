-- An array as columns: its coefficients, what loading a list of coefficients puts there, and M(x, y) of what is loaded.
-- Assumes nothing.
use mathlib.Core.List.{List, [], ◌∷◌, map, Memᴰ}
use mathlib.Core.Logic.{◌≢◌}
use mathlib.Core.Path.{◌≡◌, refl, sym, ◌∙◌, ap, ap₂, subst}
use Prim.Native.Nat.{ℕ, zero, suc, ◌+◌, ◌*◌, ◌/◌, ◌≤◌, ◌<◌}
use native.Mathlib.Decide.{dec_lt}
use native.Mathlib.Nat.{le_of_suc-le-suc, not-suc-le-zero, suc-mul, le_trans, mul-le-mul_right, mul-add-div_right, div-eq_of_lt}
use native.Mathlib.Omega.{arith}
use lib.ListN.{length, get_or, take, drop, set, length-set, length-drop, get_or-eq_default}
use lib.Seq.{get_or-take, get_or-drop, drop-drop, get_or-set_same, get_or-set_other, take-set-lt, take-set-le, drop-set-lt, drop-set-add}
use Rattle.definitions.proofs.Monomials.{Earlier, earlier_irreflexive}
use Rattle.definitions.proofs.Ordered.{Ordered}
use Rattle.definitions.proofs.Codeword.{power_zero, power_suc, value_cons}
use Rattle.definitions.specs.Field.{Ops, power}
use Rattle.definitions.specs.Polynomial.{terms}
use Rattle.algebra.specs.Ring.{Ring, Hom}
use Rattle.algebra.proofs.Carry.{carried}
use Rattle.algebra.proofs.Composition.{value_at}
use Rattle.algebra.proofs.Evaluation.{evaluate}
use Rattle.algebra.proofs.RingLaws.{ring, plus_zero, plus_assoc}
use Rattle.root_tree.specs.Columns.{coefficient, columns, loaded}
use Rattle.root_tree.proofs.Values.{value_of, value_of_nil, value_of_cons, value_zeros}

-- a part of a list is as long as it may be
pub take_short : {B : Type 0} (h : ℕ) (l : List B) → length (take h l) ≤ h
take_short zero l = omega arith
take_short (suc h) [] = omega arith
take_short (suc h) (x ∷ l) = let r = take_short h l in omega arith

-- and holds every entry before its end
take_long : {B : Type 0} (h : ℕ) (l : List B) (b : ℕ) → b < h → b < length l → b < length (take h l)
take_long zero l b p q = absurd (not-suc-le-zero p)
take_long (suc h) [] b p q = absurd (not-suc-le-zero q)
take_long (suc h) (x ∷ l) zero p q = omega arith
take_long (suc h) (x ∷ l) (suc b) p q = let r = take_long h l b (le_of_suc-le-suc p) (le_of_suc-le-suc q) in omega arith

-- places in an array of columns of height h: that of x^a y^b is a h + b
module _ (h : ℕ) where
  -- the column of a place
  pub place_column : (s t : ℕ) → t < h → (s * h + t) / h ≡ s
  place_column s t l = mul-add-div_right (omega arith) s t ∙ ap (λ (n : ℕ). s + n) (div-eq_of_lt l) ∙ (omega arith)

  -- no two powers have the same place
  pub place_once : (s t a b : ℕ) → t < h → b < h → s * h + t ≡ a * h + b → (s ≡ a) × (t ≡ b)
  place_once s t a b p q e =
      let f : s ≡ a = sym (place_column s t p) ∙ ap (λ (n : ℕ). n / h) e ∙ place_column a b q in
      (f, (let g : s * h ≡ a * h = ap (λ (n : ℕ). n * h) f in omega arith))

  -- w columns take w h places
  pub place_within : (s t w : ℕ) → s < w → t < h → s * h + t < w * h
  place_within s t w p q = let a = suc-mul s h in let b : suc s * h ≤ w * h = mul-le-mul_right h p in omega arith

  -- an earlier monomial has another place
  earlier_place : (v : ℕ) (m n : ℕ × ℕ) → m.1 < h → n.1 < h → Earlier v m n → n.0 * h + n.1 ≢ m.0 * h + m.1
  earlier_place v m n p q r e =
      let g = place_once n.0 n.1 m.0 m.1 q p e in
      earlier_irreflexive v m (subst (Earlier v m) (ap₂ (λ (a b : ℕ). (a, b)) g.0 g.1) r)

module _ (A : Ops) where
  open A use {K, o}

  -- the coefficients of an array's columns
  pub columns_within : (h w : ℕ) (l : List K) (s t : ℕ) → s < w → t < h → coefficient A (columns A h w l) s t ≡ get_or l (s * h + t) o
  unfolding columns
  columns_within h zero l s t p q = absurd (not-suc-le-zero p)
  columns_within h (suc w) l zero t p q = let e : zero * h + t ≡ t = omega arith in get_or-take h l t o q ∙ ap (λ (n : ℕ). get_or l n o) (sym e)
  columns_within h (suc w) l (suc s) t p q =
      columns_within h w (drop h l) s t (le_of_suc-le-suc p) q ∙ get_or-drop h l (s * h + t) o ∙ ap (λ (n : ℕ). get_or l n o) (place s h t)
    where
      -- the place in the whole
      place : (s h t : ℕ) → h + (s * h + t) ≡ suc s * h + t
      place s h t = rw (suc-mul s h) (omega arith)

  -- column u of an array
  pub columns_at : (h w : ℕ) (l : List K) (u : ℕ) → u < w → get_or (columns A h w l) u [] ≡ take h (drop (u * h) l)
  unfolding columns
  columns_at h zero l u p = absurd (not-suc-le-zero p)
  columns_at h (suc w) l zero p = let e : zero * h ≡ 0 = omega arith in ap (λ (n : ℕ). take h (drop n l)) (sym e)
  columns_at h (suc w) l (suc u) p =
      columns_at h w (drop h l) u (le_of_suc-le-suc p) ∙ ap (take h) (drop-drop (u * h) h l ∙ ap (λ (n : ℕ). drop n l) (place u h))
    where
      -- the place in the whole
      place : (u h : ℕ) → h + u * h ≡ suc u * h
      place u h = rw (suc-mul u h) (omega arith)

  -- those of no column
  pub columns_beyond : (h w : ℕ) (l : List K) (s t : ℕ) → w ≤ s → coefficient A (columns A h w l) s t ≡ o
  unfolding columns
  columns_beyond h zero l s t p = refl
  columns_beyond h (suc w) l zero t p = absurd (not-suc-le-zero p)
  columns_beyond h (suc w) l (suc s) t p = columns_beyond h w (drop h l) s t (le_of_suc-le-suc p)

  -- those above the height
  pub columns_above : (h w : ℕ) (l : List K) (s t : ℕ) → h ≤ t → coefficient A (columns A h w l) s t ≡ o
  unfolding columns
  columns_above h zero l s t p = refl
  columns_above h (suc w) l zero t p = get_or-eq_default (take h l) o (le_trans (take_short h l) p)
  columns_above h (suc w) l (suc s) t p = columns_above h w (drop h l) s t p

  -- ---- loading

  -- loading keeps the length
  pub length_loaded : (h : ℕ) (q : List K) (L : List (ℕ × ℕ)) (l : List K) → length (loaded A h q L l) ≡ length l
  unfolding loaded
  length_loaded h [] L l = refl
  length_loaded h (c ∷ q) [] l = refl
  length_loaded h (c ∷ q) (m ∷ L) l = length_loaded h q L (set l (m.0 * h + m.1) c) ∙ length-set l (m.0 * h + m.1) c

  -- a place that none is put to stays
  pub loaded_keeps : (h : ℕ) (q : List K) (L : List (ℕ × ℕ)) (l : List K) (i : ℕ)
      → ((n : ℕ × ℕ) → Memᴰ n L → i ≢ n.0 * h + n.1) → get_or (loaded A h q L l) i o ≡ get_or l i o
  unfolding loaded
  loaded_keeps h [] L l i f = refl
  loaded_keeps h (c ∷ q) [] l i f = refl
  loaded_keeps h (c ∷ q) (m ∷ L) l i f =
      loaded_keeps h q L (set l (m.0 * h + m.1) c) i (λ n k. f n (Memᴰ.tail k))
      ∙ get_or-set_other l (m.0 * h + m.1) i c o (f m (Memᴰ.head refl))

  -- a list whose array is zero is zero
  pub loaded_zero : (v h w : ℕ) (q : List K) (L : List (ℕ × ℕ)) (l : List K) → Ordered (Earlier v) L
      → ((m : ℕ × ℕ) → Memᴰ m L → (m.1 < h) × (m.0 < w)) → w * h ≤ length l → length q ≤ length L
      → ((s t : ℕ) → s < w → t < h → get_or (loaded A h q L l) (s * h + t) o ≡ o) → (j : ℕ) → get_or q j o ≡ o
  unfolding loaded
  loaded_zero v h w [] L l r f e k z j = refl
  loaded_zero v h w (c ∷ q) [] l r f e k z j = absurd (not-suc-le-zero k)
  loaded_zero v h w (c ∷ q) (m ∷ L) l r f e k z zero =
      let g = f m (Memᴰ.head refl) in
      let p = place_within h m.0 m.1 w g.1 g.0 in
      sym (get_or-set_same l (m.0 * h + m.1) c o (omega arith))
      ∙ sym (loaded_keeps h q L (set l (m.0 * h + m.1) c) (m.0 * h + m.1)
      (λ n i d. earlier_place h v m n g.0 (f n (Memᴰ.tail i)).0 (r.0 n i) (sym d)))
      ∙ z m.0 m.1 g.1 g.0
  loaded_zero v h w (c ∷ q) (m ∷ L) l r f e k z (suc j) =
      loaded_zero v h w q L (set l (m.0 * h + m.1) c) r.1 (λ n i. f n (Memᴰ.tail i)) (rw (length-set l (m.0 * h + m.1) c) e)
      (le_of_suc-le-suc k) z j

module _ (A R : Ring) (e : Hom A.ops R.ops) where
  open R.ops use {K, o, i, add as ◌⊕◌, mul as ◌⊗◌}
  open e use {φ, φ_zero}

  infixl 60 ◌⊕◌
  infixl 70 ◌⊗◌
  -- at the constant
  first_set : (y v : K) (c d : A.ops.K) → d ≡ A.ops.o → φ c ⊕ y ⊗ v ≡ φ d ⊕ y ⊗ v ⊕ φ c ⊗ i
  first_set y v c d z = rw (z, φ_zero) (simp ring)

  -- one coefficient later
  later_set : (y v w a b : K) → w ≡ v ⊕ a ⊗ b → (d : K) → d ⊕ y ⊗ w ≡ d ⊕ y ⊗ v ⊕ a ⊗ (y ⊗ b)
  later_set y v w a b z d = rw z (simp ring)

  -- one coefficient put where a zero was
  value_set : (y : K) (p : List A.ops.K) (b : ℕ) (c : A.ops.K) → b < length p → get_or p b A.ops.o ≡ A.ops.o
      → evaluate A R e y (set p b c) ≡ evaluate A R e y p ⊕ φ c ⊗ power R.ops y b
  value_set y [] b c h z = absurd (not-suc-le-zero h)
  value_set y (d ∷ p) zero c h z =
      value_cons R.ops y (φ c) (map φ p) ∙ first_set y (evaluate A R e y p) c d z
      ∙ ap₂ (λ (u w : K). u ⊕ φ c ⊗ w) (sym (value_cons R.ops y (φ d) (map φ p))) (sym (power_zero R.ops y))
  value_set y (d ∷ p) (suc b) c h z =
      value_cons R.ops y (φ d) (map φ (set p b c))
      ∙ later_set y (evaluate A R e y p) (evaluate A R e y (set p b c)) (φ c) (power R.ops y b) (value_set y p b c (le_of_suc-le-suc h) z) (φ d)
      ∙ ap₂ (λ (u w : K). u ⊕ φ c ⊗ w) (sym (value_cons R.ops y (φ d) (map φ p))) (sym (power_suc R.ops y b))

  -- in the first column
  first_column_step : (x p c b v : K) → p ⊕ c ⊗ b ⊕ x ⊗ v ≡ p ⊕ x ⊗ v ⊕ c ⊗ i ⊗ b
  first_column_step x p c b v = simp ring

  -- one column later
  later_column_step : (x p v c a b : K) → p ⊕ x ⊗ (v ⊕ c ⊗ a ⊗ b) ≡ p ⊕ x ⊗ v ⊕ c ⊗ (x ⊗ a) ⊗ b
  later_column_step x p v c a b = simp ring

  -- M(x, y) with one coefficient put where a zero was
  value_columns_set : (x y : K) (h w : ℕ) (l : List A.ops.K) (a b : ℕ) (c : A.ops.K) → a < w → b < h → a * h + b < length l
      → get_or l (a * h + b) A.ops.o ≡ A.ops.o
      → value_of A R e x y (columns A.ops h w (set l (a * h + b) c))
      ≡ value_of A R e x y (columns A.ops h w l) ⊕ φ c ⊗ power R.ops x a ⊗ power R.ops y b
  unfolding columns
  value_columns_set x y h zero l a b c p q n z = absurd (not-suc-le-zero p)
  value_columns_set x y h (suc w) l zero b c p q n z =
      let k : zero * h + b ≡ b = omega arith in
      let n' : b < length l = omega arith in
      ap (λ (j : ℕ). value_of A R e x y (take h (set l j c) ∷ columns A.ops h w (drop h (set l j c)))) k
      ∙ ap₂ (λ (u : List A.ops.K) (r : List A.ops.K). value_of A R e x y (u ∷ columns A.ops h w r)) (take-set-lt h l b c q) (drop-set-lt h l b c q)
      ∙ value_of_cons A R e x y (set (take h l) b c) (columns A.ops h w (drop h l))
      ∙ ap (λ (u : K). u ⊕ x ⊗ value_of A R e x y (columns A.ops h w (drop h l)))
      (value_set y (take h l) b c (take_long h l b q n') (get_or-take h l b A.ops.o q ∙ ap (λ (j : ℕ). get_or l j A.ops.o) (sym k) ∙ z))
      ∙ first_column_step x (evaluate A R e y (take h l)) (φ c) (power R.ops y b) (value_of A R e x y (columns A.ops h w (drop h l)))
      ∙ ap₂ (λ (u r : K). u ⊕ φ c ⊗ r ⊗ power R.ops y b) (sym (value_of_cons A R e x y (take h l) (columns A.ops h w (drop h l)))) (sym (power_zero R.ops x))
  value_columns_set x y h (suc w) l (suc a) b c p q n z =
      let k : suc a * h + b ≡ h + (a * h + b) = rw (suc-mul a h) (omega arith) in
      let n' : a * h + b < length (drop h l) = rw (length-drop h l) (omega arith) in
      ap (λ (j : ℕ). value_of A R e x y (take h (set l j c) ∷ columns A.ops h w (drop h (set l j c)))) k
      ∙ ap₂ (λ (u : List A.ops.K) (r : List A.ops.K). value_of A R e x y (u ∷ columns A.ops h w r))
      (take-set-le h l (h + (a * h + b)) c (omega arith)) (drop-set-add h l (a * h + b) c)
      ∙ value_of_cons A R e x y (take h l) (columns A.ops h w (set (drop h l) (a * h + b) c))
      ∙ ap (λ (u : K). evaluate A R e y (take h l) ⊕ x ⊗ u)
      (value_columns_set x y h w (drop h l) a b c (le_of_suc-le-suc p) q n'
      (get_or-drop h l (a * h + b) A.ops.o ∙ ap (λ (j : ℕ). get_or l j A.ops.o) (sym k) ∙ z))
      ∙ later_column_step x (evaluate A R e y (take h l)) (value_of A R e x y (columns A.ops h w (drop h l))) (φ c) (power R.ops x a) (power R.ops y b)
      ∙ ap₂ (λ (u r : K). u ⊕ φ c ⊗ r ⊗ power R.ops y b) (sym (value_of_cons A R e x y (take h l) (columns A.ops h w (drop h l)))) (sym (power_suc R.ops x a))

  -- an array of zeros
  pub value_columns_zero : (x y : K) (h w : ℕ) (l : List A.ops.K) → ((j : ℕ) → get_or l j A.ops.o ≡ A.ops.o) → value_of A R e x y (columns A.ops h w l) ≡ o
  unfolding columns
  value_columns_zero x y h zero l z = value_of_nil A R e x y
  value_columns_zero x y h (suc w) l z =
      value_of_cons A R e x y (take h l) (columns A.ops h w (drop h l))
      ∙ ap₂ (λ (u v : K). u ⊕ x ⊗ v) (value_zeros A R e y (take h l) front)
      (value_columns_zero x y h w (drop h l) (λ j. get_or-drop h l j A.ops.o ∙ z (h + j))) ∙ simp ring
    where
      -- the first column is zero
      front : (t : ℕ) → get_or (take h l) t A.ops.o ≡ A.ops.o
      front t =
          elim (dec_lt t h) [
            | yes p ↦ get_or-take h l t A.ops.o p ∙ z t
            | no n ↦ get_or-eq_default (take h l) A.ops.o (le_trans (take_short h l) (omega arith))
          ]

  -- M(x, y) of what is loaded: that of the terms
  pub value_loaded : (x y : K) (v h w : ℕ) (q : List A.ops.K) (L : List (ℕ × ℕ)) (l : List A.ops.K) → Ordered (Earlier v) L
      → ((m : ℕ × ℕ) → Memᴰ m L → (m.1 < h) × (m.0 < w)) → w * h ≤ length l
      → ((m : ℕ × ℕ) → Memᴰ m L → get_or l (m.0 * h + m.1) A.ops.o ≡ A.ops.o)
      → value_of A R e x y (columns A.ops h w (loaded A.ops h q L l))
      ≡ value_of A R e x y (columns A.ops h w l) ⊕ value_at R x y (map (carried A.ops R.ops e) (terms A.ops q L))
  unfolding loaded terms value_at
  value_loaded x y v h w [] L l r f k z = sym (plus_zero R (value_of A R e x y (columns A.ops h w l)))
  value_loaded x y v h w (c ∷ q) [] l r f k z = sym (plus_zero R (value_of A R e x y (columns A.ops h w l)))
  value_loaded x y v h w (c ∷ q) (m ∷ L) l r f k z =
      let g = f m (Memᴰ.head refl) in
      let p = place_within h m.0 m.1 w g.1 g.0 in
      value_loaded x y v h w q L (set l (m.0 * h + m.1) c) r.1 (λ n i. f n (Memᴰ.tail i)) (rw (length-set l (m.0 * h + m.1) c) k)
      (λ n i. get_or-set_other l (m.0 * h + m.1) (n.0 * h + n.1) c A.ops.o
      (earlier_place h v m n g.0 (f n (Memᴰ.tail i)).0 (r.0 n i)) ∙ z n (Memᴰ.tail i))
      ∙ ap (λ (u : K). u ⊕ value_at R x y (map (carried A.ops R.ops e) (terms A.ops q L)))
      (value_columns_set x y h w l m.0 m.1 c g.1 g.0 (omega arith) (z m (Memᴰ.head refl)))
      ∙ plus_assoc R (value_of A R e x y (columns A.ops h w l)) (φ c ⊗ power R.ops x m.0 ⊗ power R.ops y m.1)
      (value_at R x y (map (carried A.ops R.ops e) (terms A.ops q L)))
