-- Lists joined over a list: their members, their order and how many they are.
-- Assumes nothing.
use mathlib.Core.List.Memᴰ
use mathlib.Core.List.{List, [], ◌∷◌, ◌++◌, flat_map, flatten, append_assoc, append-nil, Memᴰ}
use mathlib.Core.Logic.{⊎_elim}
use mathlib.Core.Path.{◌≡◌, refl, sym, ◌∙◌, ap}
use Prim.Native.Nat.{ℕ, zero, suc, ◌+◌, ◌≤◌, ◌<◌}
use native.Mathlib.Decide.{dec_lt}
use native.Mathlib.Nat.{not-suc-le-zero}
use native.Mathlib.Numerals.{add-one}
use native.Mathlib.Omega.{arith}
use lib.ListN.{length, length-append}
use Rattle.definitions.specs.Tools.{below, sum}
use Rattle.definitions.proofs.Tools.{below_zero, below_suc, sum_zero, sum_suc}
use Rattle.definitions.proofs.Ordered.{Ordered, ordered_append}

module _ {A B : Type 0} (f : A → List B) where
  -- over no entry nothing is joined
  pub join_nil : flat_map f [] ≡ []
  unfolding flat_map
  join_nil = refl

  -- over one entry more at the front its list comes first
  pub join_cons : (a : A) (l : List A) → flat_map f (a ∷ l) ≡ f a ++ flat_map f l
  unfolding flat_map
  join_cons a l = refl

  -- over two lists, the one after the other
  pub join_append : (l m : List A) → flat_map f (l ++ m) ≡ flat_map f l ++ flat_map f m
  join_append [] m = rw join_nil
  join_append (a ∷ l) m = rw (join_cons a (l ++ m), join_cons a l, join_append l m) (sym (append_assoc (f a) (flat_map f l) (flat_map f m)))

  -- a member of one of the lists is a member
  pub join_member : (l : List A) (a : A) (y : B) → Memᴰ a l → Memᴰ y (f a) → Memᴰ y (flat_map f l)
  join_member [] a y m k = absurd (Memᴰ.not-nil m)
  join_member (x ∷ l) a y m k =
      rw (join_cons x l)
      (⊎_elim (λ e. Memᴰ.append_left (flat_map f l) (rw e at k)) (λ t. Memᴰ.append_right (f x) (join_member l a y t k)) (Memᴰ.cases_cons m))

  -- and every member is one
  pub member_join : (l : List A) (y : B) → Memᴰ y (flat_map f l) → (a : A) × Memᴰ a l × Memᴰ y (f a)
  member_join [] y m = absurd (Memᴰ.not-nil (rw join_nil at m))
  member_join (x ∷ l) y m =
      ⊎_elim (λ h. (x, Memᴰ.head refl, h)) (λ t. let r = member_join l y t in (r.0, Memᴰ.tail r.1, r.2))
      (Memᴰ.append_cases (f x) (rw (join_cons x l) at m))

  -- lists in order, those of an earlier entry before those of a later one
  pub ordered_join : (R : B → B → Type 0) (S : A → A → Type 0) → ((a : A) → Ordered R (f a))
      → ((a b : A) (x y : B) → S a b → Memᴰ x (f a) → Memᴰ y (f b) → R x y) → (l : List A) → Ordered S l → Ordered R (flat_map f l)
  ordered_join R S o c [] p = rw join_nil tt
  ordered_join R S o c (a ∷ l) p =
      rw (join_cons a l)
      (ordered_append R (f a) (flat_map f l) (o a) (ordered_join R S o c l p.1)
      (λ x y s t. let r = member_join l y t in c a r.0 x y (p.0 r.0 r.1) s r.2))

-- lists joined over one number more
pub join_below : {B : Type 0} (f : ℕ → List B) (n : ℕ) → flat_map f (below (suc n)) ≡ flat_map f (below n) ++ f n
join_below f n =
    rw (below_suc n, join_append f (below n) (n ∷ []), join_cons f n [], join_nil f, append-nil (f n))

module _ {B : Type 0} (f : ℕ → List B) where
  -- how many there are with one list more
  pub joined_count : (s : ℕ) → length (flat_map f (below s)) + length (f s) ≡ length (flat_map f (below (s + 1)))
  joined_count s =
      sym (ap (λ (n : ℕ). length (flat_map f (below n))) (add-one s) ∙ ap length (join_below f s) ∙ length-append (flat_map f (below s)) (f s))

  -- as many as all the lists hold together
  pub length_join : (n : ℕ) → length (flat_map f (below n)) ≡ sum n (λ c. length (f c))
  length_join zero = rw below_zero (ap length (join_nil f) ∙ sym (sum_zero (λ c. length (f c))))
  length_join (suc n) =
      ap length (join_below f n) ∙ length-append (flat_map f (below n)) (f n) ∙ ap (λ (m : ℕ). m + length (f n)) (length_join n)
      ∙ sym (sum_suc n (λ c. length (f c)))

  -- no list is longer than all
  pub joined_room : (n s : ℕ) → s < n → length (flat_map f (below s)) + length (f s) ≤ length (flat_map f (below n))
  joined_room zero s h = absurd (not-suc-le-zero h)
  joined_room (suc n) s h =
      let e = joined_count n in
      let g : length (flat_map f (below (n + 1))) ≡ length (flat_map f (below (suc n))) = ap (λ (k : ℕ). length (flat_map f (below k))) (add-one n) in
      elim (dec_lt s n) [
        | yes l ↦ let r = joined_room n s l in omega arith
        | no l ↦ let z : s ≡ n = omega arith in rw z (omega arith)
      ]

-- one list alone
pub flatten_one : {B : Type 0} (f : List B) → flatten (f ∷ []) ≡ f
unfolding flatten
flatten_one f = append-nil f

-- two lists of lists, the one after the other
pub flatten_append : {B : Type 0} (l m : List (List B)) → flatten (l ++ m) ≡ flatten l ++ flatten m
unfolding flatten
flatten_append [] m = refl
flatten_append {B} (f ∷ l) m = ap (λ (r : List B). f ++ r) (flatten_append l m) ∙ sym (append_assoc f (flatten l) (flatten m))
