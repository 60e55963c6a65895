-- The shift p(y + c) by halves, in characteristic 2: with the entries of even place apart from those of odd place, p is E(y²) + y O(y²), and
-- (y + c)² is y² + c². So p(y + c) has E + c O and O, each shifted by c², in its even and in its odd places.
-- Assumes nothing.
use mathlib.Core.List.{List, [], ◌∷◌}
use mathlib.Core.Path.{◌≡◌, refl, sym, ◌∙◌, ap, ap₂}
use Prim.Native.Nat.{ℕ, zero, suc, ◌≤◌}
use native.Mathlib.Nat.{le_of_suc-le-suc, not-suc-le-zero}
use native.Mathlib.Omega.{arith}
use lib.ListN.{length, get_or}
use Rattle.algebra.specs.Ring.{Ring}
use Rattle.algebra.proofs.Polynomials.{coefficient_plus, coefficient_scaled}
use Rattle.algebra.proofs.RingLaws.{ring}
use Rattle.definitions.specs.Roots.{scaled}
use Rattle.root_tree.specs.Columns.{shift}

-- twice a number
unfoldable pub two : ℕ → ℕ
two zero = zero
two (suc n) = suc (suc (two n))

module _ (R : Ring) where
  open R.ops use {K, o, add as ◌⊕◌, mul as ◌⊗◌}

  infixl 60 ◌⊕◌
  infixl 70 ◌⊗◌
  -- the coefficients of f(y + c), of the n coefficients of f, by Horner's rule
  unfoldable pub moved : K → ℕ → (ℕ → K) → ℕ → K
  moved c zero f t = o
  moved c (suc n) f zero = c ⊗ moved c n (λ b. f (suc b)) zero ⊕ f zero
  moved c (suc n) f (suc t) = c ⊗ moved c n (λ b. f (suc b)) (suc t) ⊕ moved c n (λ b. f (suc b)) t

  -- they are those of the shift
  pub shift_moved : (c : K) (p : List K) (t : ℕ) → get_or (shift R.ops c p) t o ≡ moved c (length p) (λ b. get_or p b o) t
  unfolding shift moved
  shift_moved c [] t = refl
  shift_moved c (d ∷ p) zero =
      coefficient_plus R (scaled R.ops c (shift R.ops c p)) (d ∷ shift R.ops c p) zero
      ∙ ap (λ (x : K). x ⊕ d) (coefficient_scaled R c (shift R.ops c p) zero ∙ ap (λ (x : K). c ⊗ x) (shift_moved c p zero))
  shift_moved c (d ∷ p) (suc t) =
      coefficient_plus R (scaled R.ops c (shift R.ops c p)) (d ∷ shift R.ops c p) (suc t)
      ∙ ap₂ ◌⊕◌ (coefficient_scaled R c (shift R.ops c p) (suc t) ∙ ap (λ (x : K). c ⊗ x) (shift_moved c p (suc t))) (shift_moved c p t)

  -- two steps of Horner's rule, at y^0
  even_first : (c x e d a b : K) → x ≡ e ⊕ c ⊗ d → c ⊗ (c ⊗ x ⊕ b) ⊕ a ≡ (c ⊗ c ⊗ e ⊕ a) ⊕ c ⊗ (c ⊗ c ⊗ d ⊕ b)
  even_first c x e d a b h = rw h (simp ring)

  -- at a higher even place
  even_more : (c x y z e d g k : K) → x ≡ e ⊕ c ⊗ d → z ≡ g ⊕ c ⊗ k → c ⊗ (c ⊗ x ⊕ y) ⊕ (c ⊗ y ⊕ z) ≡ (c ⊗ c ⊗ e ⊕ g) ⊕ c ⊗ (c ⊗ c ⊗ d ⊕ k)
  even_more c x y z e d g k h l = rw (h, l) (simp ring)

  -- at an odd place
  odd_more : (c x y z d k : K) → x ≡ d → z ≡ k → c ⊗ (c ⊗ x ⊕ y) ⊕ (c ⊗ y ⊕ z) ≡ c ⊗ c ⊗ d ⊕ k
  odd_more c x y z d k h l = rw (h, l) (simp ring)

  -- the odd places: half of them, moved by c²
  pub moved_odd : (c : K) (n : ℕ) (f : ℕ → K) (q : ℕ) → moved c (two n) f (suc (two q)) ≡ moved (c ⊗ c) n (λ u. f (suc (two u))) q
  unfolding moved two
  moved_odd c zero f q = refl
  moved_odd c (suc n) f zero =
      odd_more c (moved c (two n) (λ b. f (suc (suc b))) (suc zero)) (moved c (two n) (λ b. f (suc (suc b))) zero) (f (suc zero))
      (moved (c ⊗ c) n (λ u. f (suc (suc (suc (two u))))) zero) (f (suc zero)) (moved_odd c n (λ b. f (suc (suc b))) zero) refl
  moved_odd c (suc n) f (suc q) =
      odd_more c (moved c (two n) (λ b. f (suc (suc b))) (suc (two (suc q)))) (moved c (two n) (λ b. f (suc (suc b))) (two (suc q))) (moved c (two n) (λ b. f (suc (suc b))) (suc (two q)))
      (moved (c ⊗ c) n (λ u. f (suc (suc (suc (two u))))) (suc q)) (moved (c ⊗ c) n (λ u. f (suc (suc (suc (two u))))) q)
      (moved_odd c n (λ b. f (suc (suc b))) (suc q)) (moved_odd c n (λ b. f (suc (suc b))) q)

  -- the even places
  even_places : (c : K) (n : ℕ) (f : ℕ → K) (q : ℕ)
      → moved c (two n) f (two q) ≡ moved (c ⊗ c) n (λ u. f (two u)) q ⊕ c ⊗ moved (c ⊗ c) n (λ u. f (suc (two u))) q
  unfolding moved two
  even_places c zero f q = simp ring
  even_places c (suc n) f zero =
      even_first c (moved c (two n) (λ b. f (suc (suc b))) zero) (moved (c ⊗ c) n (λ u. f (suc (suc (two u)))) zero) (moved (c ⊗ c) n (λ u. f (suc (suc (suc (two u))))) zero)
      (f zero) (f (suc zero)) (even_places c n (λ b. f (suc (suc b))) zero)
  even_places c (suc n) f (suc q) =
      even_more c (moved c (two n) (λ b. f (suc (suc b))) (two (suc q))) (moved c (two n) (λ b. f (suc (suc b))) (suc (two q))) (moved c (two n) (λ b. f (suc (suc b))) (two q))
      (moved (c ⊗ c) n (λ u. f (suc (suc (two u)))) (suc q)) (moved (c ⊗ c) n (λ u. f (suc (suc (suc (two u))))) (suc q))
      (moved (c ⊗ c) n (λ u. f (suc (suc (two u)))) q) (moved (c ⊗ c) n (λ u. f (suc (suc (suc (two u))))) q)
      (even_places c n (λ b. f (suc (suc b))) (suc q)) (even_places c n (λ b. f (suc (suc b))) q)

  -- a sum, one of whose summands has a factor
  sum_first : (c k x y a b : K) → c ⊗ (x ⊕ k ⊗ y) ⊕ (a ⊕ k ⊗ b) ≡ (c ⊗ x ⊕ a) ⊕ k ⊗ (c ⊗ y ⊕ b)
  sum_first c k x y a b = simp ring

  -- is moved summand by summand
  moved_sum : (c k : K) (n : ℕ) (f g : ℕ → K) (t : ℕ) → moved c n (λ b. f b ⊕ k ⊗ g b) t ≡ moved c n f t ⊕ k ⊗ moved c n g t
  unfolding moved
  moved_sum c k zero f g t = simp ring
  moved_sum c k (suc n) f g zero =
      ap (λ (x : K). c ⊗ x ⊕ (f zero ⊕ k ⊗ g zero)) (moved_sum c k n (λ b. f (suc b)) (λ b. g (suc b)) zero)
      ∙ sum_first c k (moved c n (λ b. f (suc b)) zero) (moved c n (λ b. g (suc b)) zero) (f zero) (g zero)
  moved_sum c k (suc n) f g (suc t) =
      ap₂ (λ (x y : K). c ⊗ x ⊕ y) (moved_sum c k n (λ b. f (suc b)) (λ b. g (suc b)) (suc t)) (moved_sum c k n (λ b. f (suc b)) (λ b. g (suc b)) t)
      ∙ sum_first c k (moved c n (λ b. f (suc b)) (suc t)) (moved c n (λ b. g (suc b)) (suc t)) (moved c n (λ b. f (suc b)) t) (moved c n (λ b. g (suc b)) t)

  -- the even places: with c times each odd entry added to the even one before it, half of them, moved by c²
  pub moved_even : (c : K) (n : ℕ) (f : ℕ → K) (q : ℕ) → moved c (two n) f (two q) ≡ moved (c ⊗ c) n (λ u. f (two u) ⊕ c ⊗ f (suc (two u))) q
  moved_even c n f q = even_places c n f q ∙ sym (moved_sum (c ⊗ c) c n (λ u. f (two u)) (λ u. f (suc (two u))) q)

  -- of no coefficients but zeros
  moved_zeros : (c : K) (n : ℕ) (f : ℕ → K) → ((b : ℕ) → f b ≡ o) → (t : ℕ) → moved c n f t ≡ o
  unfolding moved
  moved_zeros c zero f z t = refl
  moved_zeros c (suc n) f z zero = ap₂ (λ (x y : K). c ⊗ x ⊕ y) (moved_zeros c n (λ b. f (suc b)) (λ b. z (suc b)) zero) (z zero) ∙ simp ring
  moved_zeros c (suc n) f z (suc t) =
      ap₂ (λ (x y : K). c ⊗ x ⊕ y) (moved_zeros c n (λ b. f (suc b)) (λ b. z (suc b)) (suc t)) (moved_zeros c n (λ b. f (suc b)) (λ b. z (suc b)) t) ∙ simp ring

  -- a tail of zeros moves nothing
  pub moved_longer : (c : K) (n m : ℕ) (f : ℕ → K) → n ≤ m → ((b : ℕ) → n ≤ b → f b ≡ o) → (t : ℕ) → moved c m f t ≡ moved c n f t
  unfolding moved
  moved_longer c zero m f h z t = moved_zeros c m f (λ b. z b (omega arith)) t
  moved_longer c (suc n) zero f h z t = absurd (not-suc-le-zero h)
  moved_longer c (suc n) (suc m) f h z zero =
      ap (λ (x : K). c ⊗ x ⊕ f zero) (moved_longer c n m (λ b. f (suc b)) (le_of_suc-le-suc h) (λ b l. z (suc b) (omega arith)) zero)
  moved_longer c (suc n) (suc m) f h z (suc t) =
      ap₂ (λ (x y : K). c ⊗ x ⊕ y) (moved_longer c n m (λ b. f (suc b)) (le_of_suc-le-suc h) (λ b l. z (suc b) (omega arith)) (suc t))
      (moved_longer c n m (λ b. f (suc b)) (le_of_suc-le-suc h) (λ b l. z (suc b) (omega arith)) t)

  -- and of one coefficient there is nothing to move
  pub moved_one : (c : K) (n : ℕ) (f : ℕ → K) → ((b : ℕ) → f (suc b) ≡ o) → moved c (suc n) f zero ≡ f zero
  unfolding moved
  moved_one c n f z = ap (λ (x : K). c ⊗ x ⊕ f zero) (moved_zeros c n (λ b. f (suc b)) z zero) ∙ simp ring
