-- Elimination to a triangle, over any field: the pivot row is brought up and scaled, and every row below loses as much of it as clears the
-- column. The solutions stay, and the triangle has one column more. And what the triangle shows, by back substitution.
-- A matrix is a function of row and column.
-- Assumes nothing.
use mathlib.Core.Bool.{Bool, cond}
use mathlib.Core.Logic.{◌≢◌}
use mathlib.Core.Path.{◌≡◌, refl, sym, ◌∙◌, ap, ap₂}
use Prim.Native.Nat.{ℕ, zero, suc, ◌≤◌, ◌<◌}
use native.Mathlib.Decide.{ℕ_discrete, dec_lt}
use native.Mathlib.Omega.{arith}
use borrow.Author.Tests.{lt-ltb, le-ltb}
use Rattle.algebra.proofs.Linear.{dot_suc, dot_multiple}
use Rattle.algebra.specs.Dot.{dot}
use Rattle.algebra.proofs.RingLaws.{plus_comm, plus_zero, zero_plus, plus_self, one_times, times_one, times_zero, zero_times, cancel}
use Rattle.algebra.specs.Ring.{Ring, IsField, Hom}
use Rattle.definitions.specs.Field.{Ops}
use Rattle.linear.proofs.Combinations.{dot_rows, dot_added, dot_zeros, dot_ends}
use Rattle.linear.specs.Rows.{behind}

module _ (A : Ops) where
  -- q solves the R rows of m, each of W entries
  abbrev pub Sol : ℕ → ℕ → (ℕ → ℕ → A.K) → (ℕ → A.K) → Type 0
  Sol R W m q = (a : ℕ) → a < R → dot A W (m a) q ≡ A.o

  -- columns before j are 1 in their own row and 0 below
  abbrev pub TriangleColumns : ℕ → ℕ → (ℕ → ℕ → A.K) → Type 0
  TriangleColumns R j m = (k : ℕ) → k < j → (m k k ≡ A.i) × ((a : ℕ) → k < a → a < R → m a k ≡ A.o)

  -- b is m with u times row r in place of row j, which goes to r, and every row below cleared in column j
  pub record Stepped (R W : ℕ) (m b : ℕ → ℕ → A.K) (r j : ℕ) (u : A.K) : Type 0 where
    pub pivot : (k : ℕ) → k < W → b j k ≡ A.mul u (m r k)
    pub moved : r ≢ j → (k : ℕ) → k < W → b r k ≡ A.add (m j k) (A.mul (m j j) (b j k))
    pub below : (t : ℕ) → j < t → t < R → t ≢ r → (k : ℕ) → k < W → b t k ≡ A.add (m t k) (A.mul (m t j) (b j k))
    pub above : (t : ℕ) → t < j → (k : ℕ) → k < W → b t k ≡ m t k

  -- nothing lies behind s yet
  pub behind_none : (y : A.K) (s n : ℕ) (r q : ℕ → A.K) → n ≤ suc s → behind A y s n r q ≡ y
  unfolding behind
  behind_none y s zero r q h = refl
  behind_none y s (suc n) r q h = ap (λ (t : Bool). cond t (A.add (behind A y s n r q) (A.mul (r n) (q n))) y) (le-ltb s n (omega arith))

  -- one entry more
  pub behind_more : (y : A.K) (s n : ℕ) (r q : ℕ → A.K) → s < n → behind A y s (suc n) r q ≡ A.add (behind A y s n r q) (A.mul (r n) (q n))
  unfolding behind
  behind_more y s n r q h = ap (λ (t : Bool). cond t (A.add (behind A y s n r q) (A.mul (r n) (q n))) y) (lt-ltb s n h)

  -- only the entries behind s count
  pub behind_equal : (y : A.K) (s n : ℕ) (r t p q : ℕ → A.K) → ((k : ℕ) → s < k → k < n → r k ≡ t k) → ((k : ℕ) → s < k → k < n → p k ≡ q k)
      → behind A y s n r p ≡ behind A y s n t q
  behind_equal y s zero r t p q d e = behind_none y s zero r p (omega arith) ∙ sym (behind_none y s zero t q (omega arith))
  behind_equal y s (suc n) r t p q d e =
      elim (dec_lt s n) [
        | yes h ↦
            behind_more y s n r p h
            ∙ ap₂ A.add (behind_equal y s n r t p q (λ k l f. d k l (omega arith)) (λ k l f. e k l (omega arith)))
            (ap₂ A.mul (d n h (omega arith)) (e n h (omega arith)))
            ∙ sym (behind_more y s n t q h)
        | no h ↦ behind_none y s (suc n) r p (omega arith) ∙ sym (behind_none y s (suc n) t q (omega arith))
      ]

-- a map that keeps sums and products carries back substitution
pub carry_behind : (A R : Ops) (h : Hom A R) (y : A.K) (s n : ℕ) (r q : ℕ → A.K)
    → h.φ (behind A y s n r q) ≡ behind R (h.φ y) s n (λ k. h.φ (r k)) (λ k. h.φ (q k))
carry_behind A R h y s zero r q = ap h.φ (behind_none A y s zero r q (omega arith)) ∙ sym (behind_none R (h.φ y) s zero _ _ (omega arith))
carry_behind A R h y s (suc n) r q =
    elim (dec_lt s n) [
      | yes l ↦
          ap h.φ (behind_more A y s n r q l) ∙ h.φ_add (behind A y s n r q) (A.mul (r n) (q n))
          ∙ ap₂ R.add (carry_behind A R h y s n r q) (h.φ_mul (r n) (q n))
          ∙ sym (behind_more R (h.φ y) s n (λ k. h.φ (r k)) (λ k. h.φ (q k)) l)
      | no l ↦ ap h.φ (behind_none A y s (suc n) r q (omega arith)) ∙ sym (behind_none R (h.φ y) s (suc n) _ _ (omega arith))
    ]

-- ---- a step

module _ (A : Ring) (F : IsField A) (R W : ℕ) (m b : ℕ → ℕ → A.ops.K) (r j : ℕ) (u : A.ops.K) (hr : r < R) (hj : j < R)
    (p : Stepped A.ops R W m b r j u) where
  open A.ops use {K, o, i, add as ◌⊕◌, mul as ◌⊗◌}

  infixl 60 ◌⊕◌
  infixl 70 ◌⊗◌
  -- a multiple of zero adds nothing
  adds_nothing : (x c z : K) → z ≡ o → x ⊕ c ⊗ z ≡ x
  adds_nothing x c z e = ap (λ (y : K). x ⊕ c ⊗ y) e ∙ ap (λ (y : K). x ⊕ y) (times_zero A c) ∙ plus_zero A x

  module _ (q : ℕ → K) where
    -- a row times q
    product : (ℕ → K) → K
    product s = dot A.ops W s q

    -- of the pivot row
    of_pivot : product (b j) ≡ u ⊗ product (m r)
    unfolding product
    of_pivot = dot_rows A W (b j) (λ k. u ⊗ m r k) q p.pivot ∙ dot_multiple A W (m r) q u

    -- of the row that went to r
    of_moved : r ≢ j → product (b r) ≡ product (m j) ⊕ m j j ⊗ product (b j)
    unfolding product
    of_moved n = dot_rows A W (b r) (λ k. m j k ⊕ m j j ⊗ b j k) q (p.moved n) ∙ dot_added A W (m j) (b j) q (m j j)

    -- of every other row below
    of_below : (t : ℕ) → j < t → t < R → t ≢ r → product (b t) ≡ product (m t) ⊕ m t j ⊗ product (b j)
    unfolding product
    of_below t l h n = dot_rows A W (b t) (λ k. m t k ⊕ m t j ⊗ b j k) q (p.below t l h n) ∙ dot_added A W (m t) (b j) q (m t j)

    -- of a row above
    of_above : (t : ℕ) → t < j → product (b t) ≡ product (m t)
    unfolding product
    of_above t h = dot_rows A W (b t) (m t) q (p.above t h)

    -- what solves before the step solves after it
    pub solves_after : Sol A.ops R W m q → Sol A.ops R W b q
    unfolding product
    solves_after s a h =
        let top : product (b j) ≡ o = of_pivot ∙ ap (λ (y : K). u ⊗ y) (s r hr) ∙ times_zero A u in
        elim (dec_lt a j) [
          | yes l ↦ of_above a l ∙ s a h
          | no g ↦
              elim (ℕ_discrete a j) [
                | yes e ↦ ap (λ (t : ℕ). product (b t)) e ∙ top
                | no n ↦
                    elim (ℕ_discrete a r) [
                      | yes e ↦
                          ap (λ (t : ℕ). product (b t)) e ∙ of_moved (λ f. n (e ∙ f)) ∙ adds_nothing (product (m j)) (m j j) (product (b j)) top ∙ s j hj
                      | no l ↦ of_below a (omega arith) h l ∙ adds_nothing (product (m a)) (m a j) (product (b j)) top ∙ s a h
                    ]
              ]
        ]

    -- what solves after it solves before
    pub solves_before : u ≢ o → Sol A.ops R W b q → Sol A.ops R W m q
    unfolding product
    solves_before nonzero s a h =
        let top : product (m r) ≡ o = cancel A F u (product (m r)) nonzero (sym of_pivot ∙ s j hj) in
        elim (dec_lt a j) [
          | yes l ↦ sym (of_above a l) ∙ s a h
          | no g ↦
              elim (ℕ_discrete a r) [
                | yes e ↦ ap (λ (t : ℕ). product (m t)) e ∙ top
                | no l ↦
                    elim (ℕ_discrete a j) [
                      | yes e ↦
                          ap (λ (t : ℕ). product (m t)) e
                          ∙ sym (of_moved (λ f. l (e ∙ sym f)) ∙ adds_nothing (product (m j)) (m j j) (product (b j)) (s j hj)) ∙ s r hr
                      | no n ↦ sym (of_below a (omega arith) h l ∙ adds_nothing (product (m a)) (m a j) (product (b j)) (s j hj)) ∙ s a h
                    ]
              ]
        ]

  -- the column of the pivot is cleared
  clears : (x z y : K) → z ≡ i → y ≡ x ⊕ x ⊗ z → y ≡ o
  clears x z y e f = f ∙ ap (λ (w : K). x ⊕ x ⊗ w) e ∙ ap (λ (w : K). x ⊕ w) (times_one A x) ∙ plus_self A x

  module _ (hw : j < W) (low : j ≤ r) (one : u ⊗ m r j ≡ i) (columns : TriangleColumns A.ops R j m) where
    -- a column before j
    kept : (k : ℕ) → k < j → (b k k ≡ i) × ((a : ℕ) → k < a → a < R → b a k ≡ o)
    kept k h = (
      p.above k h k (omega arith) ∙ (columns k h).0,
      λ a g l. elim (dec_lt a j) [
        | yes f ↦ p.above a f k (omega arith) ∙ (columns k h).1 a g l
        | no f ↦
            elim (ℕ_discrete a j) [
              | yes e ↦ ap (λ (t : ℕ). b t k) e ∙ zero_there
              | no n ↦
                  elim (ℕ_discrete a r) [
                    | yes e ↦
                        ap (λ (t : ℕ). b t k) e ∙ p.moved (λ d. n (e ∙ d)) k (omega arith) ∙ adds_nothing (m j k) (m j j) (b j k) zero_there
                        ∙ (columns k h).1 j h hj
                    | no d ↦ p.below a (omega arith) l d k (omega arith) ∙ adds_nothing (m a k) (m a j) (b j k) zero_there ∙ (columns k h).1 a g l
                  ]
            ]
      ],
    )
      where
        zero_there : b j k ≡ o
        zero_there = p.pivot k (omega arith) ∙ ap (λ (y : K). u ⊗ y) ((columns k h).1 r (omega arith) hr) ∙ times_zero A u

    -- column j
    gained : (b j j ≡ i) × ((a : ℕ) → j < a → a < R → b a j ≡ o)
    gained = (
      p.pivot j hw ∙ one,
      λ a g l. elim (ℕ_discrete a r) [
        | yes e ↦ ap (λ (t : ℕ). b t j) e ∙ clears (m j j) (b j j) (b r j) (p.pivot j hw ∙ one) (p.moved (λ f. omega arith) j hw)
        | no f ↦ clears (m a j) (b j j) (b a j) (p.pivot j hw ∙ one) (p.below a g l f j hw)
      ],
    )

    -- the triangle has one column more
    pub triangle_more : TriangleColumns A.ops R (suc j) b
    triangle_more k h =
        elim (ℕ_discrete k j) [
          | yes e ↦ (
            ap (λ (t : ℕ). b t t) e ∙ gained.0,
            λ a g l. ap (λ (t : ℕ). b a t) e ∙ gained.1 a (omega arith) l,
          )
          | no n ↦ kept k (omega arith)
        ]

-- ---- what the triangle shows

module _ (A : Ring) where
  open A.ops use {K, o, i, add as ◌⊕◌, mul as ◌⊗◌}

  infixl 60 ◌⊕◌
  infixl 70 ◌⊗◌
  -- a row that is zero before s and 1 there, up to s
  dot_first_one : (s : ℕ) (r q : ℕ → K) → ((k : ℕ) → k < s → r k ≡ o) → r s ≡ i → dot A.ops (suc s) r q ≡ q s
  dot_first_one s r q e f =
      dot_suc A.ops s r q ∙ ap₂ (λ (x y : K). x ⊕ y ⊗ q s) (dot_zeros A s r q e) f ∙ zero_plus A (i ⊗ q s) ∙ one_times A (q s)

  -- one entry more
  behind_step : (y d x a w : K) → y ⊕ d ≡ x ⊕ a → y ⊕ (d ⊕ w) ≡ x ⊕ (a ⊕ w)
  behind_step y d x a w e = sym (A.add_assoc y d w) ∙ ap (λ (z : K). z ⊕ w) e ∙ A.add_assoc x a w

  -- such a row, times q, is the entry at s and what lies behind it
  dot_behind : (y : K) (s n : ℕ) (r q : ℕ → K) → s < n → ((k : ℕ) → k < s → r k ≡ o) → r s ≡ i
      → y ⊕ dot A.ops n r q ≡ q s ⊕ behind A.ops y s n r q
  dot_behind y s zero r q h e f = let z : ⊥ = omega arith in absurd z
  dot_behind y s (suc n) r q h e f =
      elim (dec_lt s n) [
        | yes l ↦
            ap (λ (x : K). y ⊕ x) (dot_suc A.ops n r q)
            ∙ behind_step y (dot A.ops n r q) (q s) (behind A.ops y s n r q) (r n ⊗ q n) (dot_behind y s n r q l e f)
            ∙ ap (λ (x : K). q s ⊕ x) (sym (behind_more A.ops y s n r q l))
        | no l ↦
            let d : suc n ≡ suc s = omega arith in
            ap (λ (x : ℕ). y ⊕ dot A.ops x r q) d ∙ ap (λ (x : K). y ⊕ x) (dot_first_one s r q e f) ∙ plus_comm A y (q s)
            ∙ ap (λ (x : K). q s ⊕ x) (sym (behind_none A.ops y s (suc n) r q (omega arith)))
      ]

-- columns before j are a triangle
module _ (A : Ring) (R W : ℕ) (m : ℕ → ℕ → A.ops.K) (j : ℕ) (hj : j < W) (hr : j ≤ R) (columns : TriangleColumns A.ops R j m) where
  open A.ops use {K, o, i, add as ◌⊕◌, mul as ◌⊗◌}

  infixl 60 ◌⊕◌
  infixl 70 ◌⊗◌
  -- and column j is zero from row j on
  module _ (dependent : (a : ℕ) → j ≤ a → a < R → m a j ≡ o) (q : ℕ → K) (ends : (k : ℕ) → j < k → k < W → q k ≡ o) (one : q j ≡ i)
      (back : (s : ℕ) → s < j → q s ≡ behind A.ops (m s j) s j (m s) q) where
    -- a row before j
    row_before : (a : ℕ) → a < j → dot A.ops (suc j) (m a) q ≡ o
    row_before a h =
        dot_suc A.ops j (m a) q ∙ ap (λ (x : K). dot A.ops j (m a) q ⊕ m a j ⊗ x) one ∙ ap (λ (x : K). dot A.ops j (m a) q ⊕ x) (times_one A (m a j))
        ∙ plus_comm A (dot A.ops j (m a) q) (m a j)
        ∙ dot_behind A (m a j) a j (m a) q h (λ k l. (columns k (omega arith)).1 a l (omega arith)) (columns a h).0
        ∙ ap (λ (x : K). x ⊕ behind A.ops (m a j) a j (m a) q) (back a h) ∙ plus_self A (behind A.ops (m a j) a j (m a) q)

    -- and one from j on
    row_after : (a : ℕ) → j ≤ a → a < R → dot A.ops (suc j) (m a) q ≡ o
    row_after a l h =
        dot_suc A.ops j (m a) q
        ∙ ap₂ (λ (x y : K). x ⊕ y ⊗ q j) (dot_zeros A j (m a) q (λ k f. (columns k f).1 a (omega arith) h)) (dependent a l h)
        ∙ zero_plus A (o ⊗ q j) ∙ zero_times A (q j)

    -- what back substitution gives solves
    pub back_solves : Sol A.ops R W m q
    back_solves a h =
        dot_ends A W (suc j) (m a) q (omega arith) (λ k l f. ends k (omega arith) f)
        ∙ elim (dec_lt a j) [
          | yes l ↦ row_before a l
          | no n ↦ row_after a (omega arith) h
        ]

  -- what solves and ends before n, which is j or before it, is zero
  ends_within : (n : ℕ) → n ≤ j → (q : ℕ → K) → Sol A.ops R W m q → ((k : ℕ) → n ≤ k → k < W → q k ≡ o) → (k : ℕ) → k < W → q k ≡ o
  ends_within zero l q s ends k h = ends k (omega arith) h
  ends_within (suc n) l q s ends k h =
      ends_within n (omega arith) q s
      (λ a f g. elim (ℕ_discrete a n) [
        | yes e ↦ ap q e ∙ here
        | no e ↦ ends a (omega arith) g
      ]) k h
    where
      here : q n ≡ o
      here =
          sym (dot_ends A W (suc n) (m n) q (omega arith) ends
          ∙ dot_first_one A n (m n) q (λ c f. (columns c (omega arith)).1 n f (omega arith)) (columns n (omega arith)).0)
          ∙ s n (omega arith)

  -- so what solves and ends before j is zero
  pub none_before : (q : ℕ → K) → Sol A.ops R W m q → ((k : ℕ) → j ≤ k → k < W → q k ≡ o) → (k : ℕ) → k < W → q k ≡ o
  none_before q s ends k h = ends_within j (omega arith) q s ends k h
