-- The laws of below, sum, smallest and select.
-- Assumes nothing.
use mathlib.Core.Bool.{Bool, true, false, ◌&&◌, ◌||◌, true≢false, false≢true}
use mathlib.Core.List.Memᴰ
use mathlib.Core.List.{List, [], ◌∷◌, ◌++◌, map, map-append, Memᴰ}
use mathlib.Core.Logic.{⊎_elim}
use mathlib.Core.Path.{◌≡◌, refl, sym, ◌∙◌, ap}
use Prim.Native.Nat.{ℕ, zero, suc, ◌+◌, ◌*◌, ◌≤◌, ◌<◌}
use native.Mathlib.Decide.{dec_lt}
use native.Mathlib.Nat.{le_of_suc-le-suc, not-suc-le-zero, suc-mul}
use native.Mathlib.Omega.{arith}
use lib.ListN.{length, get_or, length-append, length-map, get_or-append}
use lib.Seq.{get_or_at}
use Rattle.definitions.specs.Tools.{below, sum, smallest, select}

-- a test, with its outcome
pub split {ℓ} : {X : Type ℓ} (b : Bool) → (b ≡ true → X) → (b ≡ false → X) → X
split true f g = f refl
split false f g = g refl

-- of two tests that pass together each passes
pub both : (a b : Bool) → (a && b) ≡ true → (a ≡ true) × (b ≡ true)
both true b e = (refl, e)
both false b e = absurd (false≢true e)

-- of two tests of which none passes each fails
pub neither : (a b : Bool) → (a || b) ≡ false → (a ≡ false) × (b ≡ false)
neither true b e = absurd (true≢false e)
neither false b e = (refl, e)

-- an entry of a list under a map
pub map_at : {A B : Type 0} (f : A → B) (l : List A) (i : ℕ) (d : A) (e : B) → i < length l → get_or (map f l) i e ≡ f (get_or l i d)
map_at f [] i d e h = absurd (not-suc-le-zero h)
map_at f (x ∷ l) zero d e h = refl
map_at f (x ∷ l) (suc i) d e h = map_at f l i d e (le_of_suc-le-suc h)

-- ---- below

-- below 0 there is no number
pub below_zero : below 0 ≡ []
unfolding below
below_zero = refl

-- below n + 1 there is n besides, at the end
pub below_suc : (n : ℕ) → below (suc n) ≡ below n ++ (n ∷ [])
unfolding below
below_suc n = refl

-- there are n of them
pub length_below : (n : ℕ) → length (below n) ≡ n
length_below zero = rw below_zero
length_below (suc n) = rw (below_suc n, length-append (below n) (n ∷ []), length_below n) (omega arith)

-- entry i is i
pub below_at : (n i : ℕ) → i < n → get_or (below n) i 0 ≡ i
below_at zero i h = absurd (not-suc-le-zero h)
below_at (suc n) i h =
    elim (dec_lt i n) [
      | yes a ↦ rw (below_suc n) (get_or-append (below n) (n ∷ []) 0 i (rw (length_below n) a) ∙ below_at n i a)
      | no b ↦
          let e : n ≡ i = omega arith in
          rw (below_suc n) (get_or_at (below n) n [] 0 i (length_below n ∙ e) ∙ e)
    ]

-- a map over one number more
pub map_below : {B : Type 0} (f : ℕ → B) (n : ℕ) → map f (below (suc n)) ≡ map f (below n) ++ (f n ∷ [])
map_below f n = rw (below_suc n) (map-append f (below n) (n ∷ []))

-- a map over them has n entries
pub length_map_below : {B : Type 0} (f : ℕ → B) (n : ℕ) → length (map f (below n)) ≡ n
length_map_below f n = length-map (below n) f ∙ length_below n

-- entry i of a map over them
pub map_below_at : {B : Type 0} (f : ℕ → B) (n i : ℕ) (e : B) → i < n → get_or (map f (below n)) i e ≡ f i
map_below_at f n i e h = map_at f (below n) i 0 e (rw (length_below n) h) ∙ ap f (below_at n i h)

-- a number below n is a member
pub below_member : (n m : ℕ) → m < n → Memᴰ m (below n)
below_member zero m h = absurd (not-suc-le-zero h)
below_member (suc n) m h =
    elim (dec_lt m n) [
      | yes a ↦ rw (below_suc n) (Memᴰ.append_left (n ∷ []) (below_member n m a))
      | no b ↦ rw (below_suc n) (Memᴰ.append_right (below n) (Memᴰ.head (omega arith)))
    ]

-- a member is below n
pub member_below : (n m : ℕ) → Memᴰ m (below n) → m < n
member_below zero m h = absurd (Memᴰ.not-nil (rw below_zero at h))
member_below (suc n) m h =
    ⊎_elim (λ a. let r = member_below n m a in omega arith) (λ b. let e = Memᴰ.eq_of_singleton b in omega arith)
    (Memᴰ.append_cases (below n) (rw (below_suc n) at h))

-- ---- sum

-- no terms
pub sum_zero : (f : ℕ → ℕ) → sum 0 f ≡ 0
unfolding sum
sum_zero f = refl

-- one term more
pub sum_suc : (n : ℕ) (f : ℕ → ℕ) → sum (suc n) f ≡ sum n f + f n
unfolding sum
sum_suc n f = refl

-- one term
pub sum_one : (f : ℕ → ℕ) → sum 1 f ≡ f 0
sum_one f = sum_suc 0 f ∙ rw (sum_zero f) (omega arith)

-- equal terms, equal sums
pub sum_ext : (n : ℕ) (f g : ℕ → ℕ) → ((j : ℕ) → j < n → f j ≡ g j) → sum n f ≡ sum n g
sum_ext zero f g h = sum_zero f ∙ sym (sum_zero g)
sum_ext (suc n) f g h = rw (sum_suc n f, sum_suc n g, sum_ext n f g (λ j l. h j (omega arith)), h n (omega arith))

-- smaller terms, a smaller sum
pub sum_le : (n : ℕ) (f g : ℕ → ℕ) → ((j : ℕ) → j < n → f j ≤ g j) → sum n f ≤ sum n g
sum_le zero f g h = rw (sum_zero f) (omega arith)
sum_le (suc n) f g h =
    let r = sum_le n f g (λ j l. h j (omega arith)) in
    let s = h n (omega arith) in
    rw (sum_suc n f, sum_suc n g) (omega arith)

-- n terms of at most c
pub sum_bound : (n c : ℕ) (f : ℕ → ℕ) → ((j : ℕ) → j < n → f j ≤ c) → sum n f ≤ n * c
sum_bound zero c f h = rw (sum_zero f) (omega arith)
sum_bound (suc n) c f h =
    let r = sum_bound n c f (λ j l. h j (omega arith)) in
    let s = h n (omega arith) in
    rw (sum_suc n f, suc-mul n c) (omega arith)

-- ---- smallest

module _ (test : ℕ → Bool) where
  -- up to 0 there is only 0
  smallest_zero : smallest test 0 ≡ 0
  unfolding smallest
  smallest_zero = refl

  -- where 0 passes it is 0
  smallest_here : (n : ℕ) → test 0 ≡ true → smallest test (suc n) ≡ 0
  unfolding smallest
  smallest_here n e = rw e

  -- where 0 fails it is looked for from 1 on
  smallest_later : (n : ℕ) → test 0 ≡ false → smallest test (suc n) ≡ suc (smallest (λ m. test (suc m)) n)
  unfolding smallest
  smallest_later n e = rw e

-- it is looked for up to n
pub smallest_le : (test : ℕ → Bool) (n : ℕ) → smallest test n ≤ n
smallest_le test zero = rw (smallest_zero test) (omega arith)
smallest_le test (suc n) =
    split (test 0) (λ y. rw (smallest_here test n y) (omega arith))
    (λ f. let r = smallest_le (λ m. test (suc m)) n in rw (smallest_later test n f) (omega arith))

-- all before it fail
pub smallest_fails : (test : ℕ → Bool) (n j : ℕ) → j < smallest test n → test j ≡ false
smallest_fails test zero j h = absurd (not-suc-le-zero (rw (smallest_zero test) at h))
smallest_fails test (suc n) zero h =
    split (test 0) (λ y. absurd (not-suc-le-zero (rw (smallest_here test n y) at h))) (λ f. f)
smallest_fails test (suc n) (suc j) h =
    split (test 0) (λ y. absurd (not-suc-le-zero (rw (smallest_here test n y) at h)))
    (λ f. smallest_fails (λ m. test (suc m)) n j (le_of_suc-le-suc (rw (smallest_later test n f) at h)))

-- before n it passes
pub smallest_passes : (test : ℕ → Bool) (n : ℕ) → smallest test n < n → test (smallest test n) ≡ true
smallest_passes test zero h = absurd (not-suc-le-zero h)
smallest_passes test (suc n) h =
    split (test 0) (λ y. rw (smallest_here test n y) y)
    (λ f. let e = smallest_later test n f in rw e (smallest_passes (λ m. test (suc m)) n (le_of_suc-le-suc (rw e at h))))

-- what a search upward comes to is the smallest
pub smallest_is : (test : ℕ → Bool) (n j : ℕ) → j ≤ n → ((i : ℕ) → i < j → test i ≡ false) → (j < n → test j ≡ true) → smallest test n ≡ j
smallest_is test n j l f p =
    elim (dec_lt (smallest test n) j) [
      | yes a ↦ absurd (true≢false (sym (smallest_passes test n (omega arith)) ∙ f (smallest test n) a))
      | no b ↦
          elim (dec_lt j (smallest test n)) [
            | yes a ↦ let s = smallest_le test n in absurd (true≢false (sym (p (omega arith)) ∙ smallest_fails test n j a))
            | no c ↦ omega arith
          ]
    ]

-- where some number below n passes, the smallest that passes is found, and passes
pub smallest_found : (test : ℕ → Bool) (n k : ℕ) → k < n → test k ≡ true → (smallest test n ≤ k) × (test (smallest test n) ≡ true)
smallest_found test n k h e =
    elim (dec_lt k (smallest test n)) [
      | yes l ↦ absurd (true≢false (sym e ∙ smallest_fails test n k l))
      | no l ↦ (omega arith, smallest_passes test n (omega arith))
    ]

-- ---- select

module _ {B : Type 0} (test : B → Bool) where
  -- of none, none
  pub select_nil : select test [] ≡ []
  unfolding select
  select_nil = refl

  -- one that passes is kept
  pub select_yes : (b : B) (l : List B) → test b ≡ true → select test (b ∷ l) ≡ b ∷ select test l
  unfolding select
  select_yes b l e = rw e

  -- one that fails is left out
  pub select_no : (b : B) (l : List B) → test b ≡ false → select test (b ∷ l) ≡ select test l
  unfolding select
  select_no b l e = rw e

  -- those selected pass
  pub select_passes : (l : List B) (x : B) → Memᴰ x (select test l) → test x ≡ true
  select_passes [] x m = absurd (Memᴰ.not-nil (rw select_nil at m))
  select_passes (b ∷ l) x m =
      split (test b)
      (λ y. ⊎_elim (λ e. ap test e ∙ y) (λ t. select_passes l x t) (Memᴰ.cases_cons (rw (select_yes b l y) at m)))
      (λ n. select_passes l x (rw (select_no b l n) at m))

  -- they are of the list
  pub select_from : (l : List B) (x : B) → Memᴰ x (select test l) → Memᴰ x l
  select_from [] x m = rw select_nil at m
  select_from (b ∷ l) x m =
      split (test b)
      (λ y. ⊎_elim (λ e. Memᴰ.head e) (λ t. Memᴰ.tail (select_from l x t)) (Memᴰ.cases_cons (rw (select_yes b l y) at m)))
      (λ n. Memᴰ.tail (select_from l x (rw (select_no b l n) at m)))

  -- each of the list that passes is selected
  pub select_keeps : (l : List B) (x : B) → test x ≡ true → Memᴰ x l → Memᴰ x (select test l)
  select_keeps [] x p m = absurd (Memᴰ.not-nil m)
  select_keeps (b ∷ l) x p m =
      split (test b)
      (λ y. rw (select_yes b l y) (⊎_elim (λ e. Memᴰ.head e) (λ t. Memᴰ.tail (select_keeps l x p t)) (Memᴰ.cases_cons m)))
      (λ n. rw (select_no b l n)
      (⊎_elim (λ e. absurd (true≢false (sym p ∙ ap test e ∙ n))) (λ t. select_keeps l x p t) (Memᴰ.cases_cons m)))

  -- where none of the list passes, none is selected
  pub select_none : (l : List B) → ((x : B) → Memᴰ x l → test x ≡ false) → select test l ≡ []
  select_none [] h = select_nil
  select_none (b ∷ l) h = select_no b l (h b (Memᴰ.head refl)) ∙ select_none l (λ x m. h x (Memᴰ.tail m))

  -- where all of the list pass, all are selected
  pub select_all : (l : List B) → ((x : B) → Memᴰ x l → test x ≡ true) → select test l ≡ l
  select_all [] h = select_nil
  select_all (b ∷ l) h = rw (select_yes b l (h b (Memᴰ.head refl)), select_all l (λ x m. h x (Memᴰ.tail m)))

  -- of two lists, one after the other
  pub select_append : (l m : List B) → select test (l ++ m) ≡ select test l ++ select test m
  select_append [] m = rw select_nil
  select_append (b ∷ l) m =
      split (test b) (λ y. rw (select_yes b (l ++ m) y, select_yes b l y, select_append l m))
      (λ n. rw (select_no b (l ++ m) n, select_no b l n, select_append l m))

  -- no more are selected than there are
  pub length_select : (l : List B) → length (select test l) ≤ length l
  length_select [] = rw select_nil (omega arith)
  length_select (b ∷ l) =
      let r = length_select l in
      split (test b) (λ y. rw (select_yes b l y) (omega arith)) (λ n. rw (select_no b l n) (omega arith))

-- what a list under a map selects, by the test before the map
pub select_map : {A B : Type 0} (test : B → Bool) (g : A → B) (l : List A) → select test (map g l) ≡ map g (select (λ (a : A). test (g a)) l)
select_map {A} test g [] = rw (select_nil test, select_nil (λ (a : A). test (g a)))
select_map {A} test g (a ∷ l) =
    split (test (g a)) (λ y. rw (select_yes test (g a) (map g l) y, select_yes (λ (a : A). test (g a)) a l y, select_map test g l))
    (λ n. rw (select_no test (g a) (map g l) n, select_no (λ (a : A). test (g a)) a l n, select_map test g l))

-- tests that agree on the members select the same
pub select_same : {B : Type 0} (test same : B → Bool) (l : List B) → ((x : B) → Memᴰ x l → test x ≡ same x) → select test l ≡ select same l
select_same test same [] h = select_nil test ∙ sym (select_nil same)
select_same test same (b ∷ l) h =
    let here = h b (Memᴰ.head refl) in
    let rest = select_same test same l (λ x m. h x (Memᴰ.tail m)) in
    split (same b)
    (λ y. select_yes test b l (here ∙ y) ∙ ap (λ (k : List _). b ∷ k) rest ∙ sym (select_yes same b l y))
    (λ n. select_no test b l (here ∙ n) ∙ rest ∙ sym (select_no same b l n))

-- where what passes the first test passes the second, selecting by the second before changes nothing
pub select_under : {B : Type 0} (test wider : B → Bool) (l : List B) → ((x : B) → Memᴰ x l → test x ≡ true → wider x ≡ true)
    → select test (select wider l) ≡ select test l
select_under test wider [] h = ap (select test) (select_nil wider)
select_under test wider (b ∷ l) h =
    let rest = select_under test wider l (λ x m. h x (Memᴰ.tail m)) in
    split (wider b)
    (λ y.
    ap (select test) (select_yes wider b l y)
    ∙ split (test b) (λ p. select_yes test b (select wider l) p ∙ ap (λ (k : List _). b ∷ k) rest ∙ sym (select_yes test b l p))
    (λ p. select_no test b (select wider l) p ∙ rest ∙ sym (select_no test b l p)))
    (λ n.
    ap (select test) (select_no wider b l n) ∙ rest
    ∙ sym (select_no test b l (split (test b) (λ p. absurd (true≢false (sym (h b (Memᴰ.head refl) p) ∙ n))) (λ p. p))))
