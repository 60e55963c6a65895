-- Lists in order: each entry stands in the relation to every later one.
-- Assumes nothing.
use mathlib.Core.Bool.{Bool}
use mathlib.Core.List.Memᴰ
use mathlib.Core.List.{List, [], ◌∷◌, ◌++◌, map, Memᴰ}
use mathlib.Core.Logic.{⊎_elim}
use mathlib.Core.Path.{◌≡◌, refl, subst}
use Prim.Native.Nat.{ℕ, zero, suc, ◌<◌}
use native.Mathlib.Decide.{dec_lt}
use native.Mathlib.Nat.{le_of_suc-le-suc, not-suc-le-zero}
use native.Mathlib.Omega.{arith}
use lib.ListN.{length, get_or}
use Rattle.definitions.specs.Tools.{below, select}
use Rattle.definitions.proofs.Tools.{split, below_zero, below_suc, member_below, select_nil, select_yes, select_no, select_from}

-- each entry of the list stands in R to every later one
abbrev pub Ordered : {B : Type 0} → (B → B → Type 0) → List B → Type 0
Ordered R [] = Unit
Ordered {B} R (x ∷ l) = ((y : B) → Memᴰ y l → R x y) × Ordered R l

-- an entry is a member
pub member_at : {B : Type 0} (l : List B) (i : ℕ) (d : B) → i < length l → Memᴰ (get_or l i d) l
member_at [] i d h = absurd (not-suc-le-zero h)
member_at (x ∷ l) zero d h = Memᴰ.head refl
member_at (x ∷ l) (suc i) d h = Memᴰ.tail (member_at l i d (le_of_suc-le-suc h))

module _ {B : Type 0} (R : B → B → Type 0) where
  -- two places, the earlier first
  pub ordered_at : (l : List B) → Ordered R l → (d : B) (i j : ℕ) → i < j → j < length l → R (get_or l i d) (get_or l j d)
  ordered_at [] o d i j h k = absurd (not-suc-le-zero k)
  ordered_at (x ∷ l) o d i zero h k = absurd (not-suc-le-zero h)
  ordered_at (x ∷ l) o d zero (suc j) h k = o.0 (get_or l j d) (member_at l j d (le_of_suc-le-suc k))
  ordered_at (x ∷ l) o d (suc i) (suc j) h k = ordered_at l o.1 d i j (le_of_suc-le-suc h) (le_of_suc-le-suc k)

  -- where nothing stands in R to itself, no two places hold the same
  pub ordered_once : ((x : B) → R x x → ⊥) → (l : List B) → Ordered R l → (d : B) (i j : ℕ) → i < length l → j < length l → get_or l i d ≡ get_or l j d → i ≡ j
  ordered_once n l o d i j h k e =
      elim (dec_lt i j) [
        | yes a ↦ absurd (n (get_or l j d) (rw e at (ordered_at l o d i j a k)))
        | no b ↦
            elim (dec_lt j i) [
              | yes a ↦ absurd (n (get_or l j d) (rw e at (ordered_at l o d j i a h)))
              | no c ↦ omega arith
            ]
      ]

  -- two lists in order, all of the first before all of the second
  pub ordered_append : (l m : List B) → Ordered R l → Ordered R m → ((x y : B) → Memᴰ x l → Memᴰ y m → R x y) → Ordered R (l ++ m)
  ordered_append [] m o p h = p
  ordered_append (x ∷ l) m o p h = (
    λ y k. ⊎_elim (λ a. o.0 y a) (λ b. h x y (Memᴰ.head refl) b) (Memᴰ.append_cases l k),
    ordered_append l m o.1 p (λ a b s t. h a b (Memᴰ.tail s) t),
  )

  -- a list under a map that carries the order of its entries
  pub ordered_map : {A : Type 0} (S : A → A → Type 0) (g : A → B) (l : List A) → ((a b : A) → Memᴰ a l → Memᴰ b l → S a b → R (g a) (g b)) → Ordered S l → Ordered R (map g l)
  ordered_map S g [] c o = tt
  ordered_map S g (a ∷ l) c o = (
    λ y k. (let r = Memᴰ.of_map g l k in subst (R (g a)) r.2 (c a r.0 (Memᴰ.head refl) (Memᴰ.tail r.1) (o.0 r.0 r.1))),
    ordered_map S g l (λ x y s t. c x y (Memᴰ.tail s) (Memᴰ.tail t)) o.1,
  )

-- what is selected of a list in order is in order
pub ordered_select : {B : Type 0} (R : B → B → Type 0) (test : B → Bool) (l : List B) → Ordered R l → Ordered R (select test l)
ordered_select R test [] o = rw (select_nil test) tt
ordered_select R test (b ∷ l) o =
    split (test b) (λ y. rw (select_yes test b l y) (λ x m. o.0 x (select_from test l x m), ordered_select R test l o.1))
    (λ n. rw (select_no test b l n) (ordered_select R test l o.1))

-- a list in two orders at once
pub ordered_both : {B : Type 0} (R S : B → B → Type 0) (l : List B) → Ordered R l → Ordered S l → Ordered (λ x y. R x y × S x y) l
ordered_both R S [] o p = tt
ordered_both R S (x ∷ l) o p = (λ y m. (o.0 y m, p.0 y m), ordered_both R S l o.1 p.1)

-- the numbers below n rise
pub below_ordered : (n : ℕ) → Ordered ◌<◌ (below n)
below_ordered zero = rw below_zero tt
below_ordered (suc n) =
    rw (below_suc n)
    (ordered_append ◌<◌ (below n) (n ∷ []) (below_ordered n) (λ y k. absurd (Memᴰ.not-nil k), tt)
    (λ x y s t. let a = member_below n x s in let e = Memᴰ.eq_of_singleton t in omega arith))
