-- A Hasse condition times a power of each coordinate is a masked row: the monomials' values where both binomials are odd, and zero elsewhere. So at
-- a point whose coordinates are not zero a masked row and its condition vanish together.
-- Assumes nothing.
use mathlib.Core.Bool.{Bool, true, false, cond}
use mathlib.Core.List.{List}
use mathlib.Core.Logic.{◌≢◌}
use mathlib.Core.Path.{◌≡◌, refl, sym, ◌∙◌, ap, ap₂, subst}
use Prim.Native.Nat.{ℕ, zero, suc, ◌+◌, ◌-◌, ◌<◌}
use native.Mathlib.Decide.{dec_lt, ℕ_discrete}
use native.Mathlib.Omega.{arith}
use borrow.Author.Tests.{eq-eqb, ne_eqb}
use lib.Dec.{eqb}
use lib.ListN.{length, get_or}
use Rattle.definitions.proofs.Codeword.{power_zero, power_suc}
use Rattle.definitions.specs.Code.{Symbols, point}
use Rattle.definitions.specs.Field.{Ops, Code, numbers, power}
use Rattle.definitions.specs.Polynomial.{terms, binomial, modulo2, derivative, hasse}
use Rattle.algebra.specs.Dot.{dot}
use Rattle.algebra.specs.FieldOf.{FieldOf}
use Rattle.algebra.specs.Ring.{Ring, IsField, Hom}
use Rattle.algebra.proofs.Binomials.{binomial_over, modulo2_zero, modulo2_one, derivative_at_lem}
use Rattle.algebra.proofs.Carry.{carry_power}
use Rattle.algebra.proofs.Elements.{number_injective, zero_symbol, zero_element, element_zero, element_one, one_symbol}
use Rattle.algebra.proofs.Linear.{row, dot_equal, dot_multiple, carry_dot, hasse_is_dot}
use Rattle.algebra.proofs.Numbers.{elements, number_power}
use Rattle.algebra.proofs.Parity.{within, odd_binomial}
use Rattle.algebra.proofs.RingLaws.{ring, one_times, times_zero, zero_times, times_assoc, times_left, cancel}
use Rattle.algebra.proofs.Solutions.{number_entry, number_hasse_at}

module _ (A : Ops) where
  open A use {K, o, mul as ◌⊗◌}

  infixl 70 ◌⊗◌
  -- what two masks leave of x
  abbrev pub masked : Bool → Bool → K → K
  masked p q x = cond q (cond p x o) o

  -- the values of the monomials at (x, y), where the power of x has the bits of s and that of y passes a test against t
  abbrev pub masked_row : (ℕ → ℕ → Bool) → List (ℕ × ℕ) → ℕ → ℕ → K → K → ℕ → K
  masked_row test l s t x y k =
      masked (within (get_or l k (0, 0)).0 s) (test (get_or l k (0, 0)).1 t) (power A x (get_or l k (0, 0)).0 ⊗ power A y (get_or l k (0, 0)).1)

module _ (R : Ring) where
  open R.ops use {K, o, i, mul as ◌⊗◌}

  infixl 70 ◌⊗◌
  -- powers of one base add up
  power_add : (x : K) (m n : ℕ) → power R.ops x (m + n) ≡ power R.ops x m ⊗ power R.ops x n
  power_add x zero n =
      let e : zero + n ≡ n = omega arith in
      ap (power R.ops x) e ∙ sym (ap (λ (y : K). y ⊗ power R.ops x n) (power_zero R.ops x) ∙ one_times R (power R.ops x n))
  power_add x (suc m) n =
      let e : suc m + n ≡ suc (m + n) = omega arith in
      ap (power R.ops x) e ∙ power_suc R.ops x (m + n) ∙ ap (λ (y : K). x ⊗ y) (power_add x m n)
      ∙ sym (ap (λ (y : K). y ⊗ power R.ops x n) (power_suc R.ops x m) ∙ times_assoc R x (power R.ops x m) (power R.ops x n))

  -- a power of one is one
  power_of_one : (n : ℕ) → power R.ops i n ≡ i
  power_of_one zero = power_zero R.ops i
  power_of_one (suc n) = power_suc R.ops i n ∙ one_times R (power R.ops i n) ∙ power_of_one n

  -- x^s times the derivative of order s of x^e is x^e, as often as the binomial says
  power_derivative : (e s : ℕ) (x : K)
      → power R.ops x s ⊗ derivative R.ops e s x ≡ modulo2 R.ops (binomial e s) ⊗ power R.ops x e
  power_derivative e s x =
      elim (dec_lt e s) [
        | yes h ↦ rw (derivative_at_lem R e s x, binomial_over e s h) (simp (modulo2_zero, ring))
        | no n ↦
            let f : s + (e - s) ≡ e = omega arith in
            ap (λ (y : K). power R.ops x s ⊗ y) (derivative_at_lem R e s x)
            ∙ times_left R (power R.ops x s) (modulo2 R.ops (binomial e s)) (power R.ops x (e - s))
            ∙ ap (λ (y : K). modulo2 R.ops (binomial e s) ⊗ y) (sym (power_add x s (e - s)) ∙ ap (power R.ops x) f)
      ]

  -- one or zero, times y
  chosen : (b : Bool) (y : K) → cond b i o ⊗ y ≡ cond b y o
  chosen true y = one_times R y
  chosen false y = zero_times R y

  -- a binomial modulo 2 is a mask
  modulo2_within : (e s : ℕ) → modulo2 R.ops (binomial e s) ≡ cond (within e s) i o
  unfolding modulo2
  modulo2_within e s = ap (λ (b : Bool). cond b i o) (odd_binomial e s)

  -- so it is x^e where e has the bits of s
  masked_derivative : (e s : ℕ) (x : K) → power R.ops x s ⊗ derivative R.ops e s x ≡ cond (within e s) (power R.ops x e) o
  masked_derivative e s x =
      power_derivative e s x ∙ ap (λ (y : K). y ⊗ power R.ops x e) (modulo2_within e s) ∙ chosen (within e s) (power R.ops x e)

  -- all can be taken in one way
  binomial_all : (n : ℕ) → binomial n n ≡ 1
  unfolding binomial
  binomial_all zero = refl
  binomial_all (suc n) = ap₂ ◌+◌ (binomial_all n) (binomial_over n (suc n) (omega arith))

  -- at zero only the derivative of order e of x^e is not zero
  derivative_at_zero : (e t : ℕ) → derivative R.ops e t o ≡ cond (eqb e t) i o
  derivative_at_zero e t =
      derivative_at_lem R e t o ∙
      elim (ℕ_discrete e t) [
        | yes h ↦
            let z : e - e ≡ zero = omega arith in
            rw (← h, binomial_all e, z, eq-eqb e e refl) (simp (modulo2_one, power_zero, ring))
        | no n ↦
            elim (dec_lt e t) [
              | yes h ↦ rw (binomial_over e t h, ne_eqb e t n) (simp (modulo2_zero, ring))
              | no m ↦ let z : e - t ≡ suc (e - t - 1) = omega arith in rw (z, ne_eqb e t n) (simp (power_suc, ring))
            ]
      ]

  -- the masks of a product mask its factors
  masked_product : (p q : Bool) (u v : K) → masked R.ops p q (u ⊗ v) ≡ cond p u o ⊗ cond q v o
  masked_product true true u v = refl
  masked_product false true u v = sym (zero_times R v)
  masked_product p false u v = sym (times_zero R (cond p u o))

  -- factors sorted
  exchange : (p d g e : K) → (p ⊗ d) ⊗ (g ⊗ e) ≡ p ⊗ g ⊗ (d ⊗ e)
  exchange p d g e = simp ring

  -- the derivatives by y of order t, times g, are the powers of c that a test lets through
  abbrev Masks : (ℕ → ℕ → Bool) → ℕ → K → K → K → Type 0
  Masks test t y c g = (e : ℕ) → g ⊗ derivative R.ops e t y ≡ cond (test e t) (power R.ops c e) o

  -- of powers of y itself
  masks_within : (t : ℕ) (y : K) → Masks within t y y (power R.ops y t)
  masks_within t y e = masked_derivative e t y

  -- of powers of one, for the derivatives at zero
  masks_equal : (t : ℕ) → Masks eqb t o i i
  masks_equal t e =
      one_times R (derivative R.ops e t o) ∙ derivative_at_zero e t ∙ ap (λ (z : K). cond (eqb e t) z o) (sym (power_of_one e))

  module _ (test : ℕ → ℕ → Bool) (t : ℕ) (y c g : K) (masks : Masks test t y c g) (l : List (ℕ × ℕ)) (s : ℕ) (x : K) where
    -- an entry of the masked row is x^s g times that of the condition
    multiple_entry : (k : ℕ) → masked_row R.ops test l s t x c k ≡ power R.ops x s ⊗ g ⊗ row R.ops l s t x y k
    multiple_entry k =
        masked_product (within (get_or l k (0, 0)).0 s) (test (get_or l k (0, 0)).1 t) (power R.ops x (get_or l k (0, 0)).0) (power R.ops c (get_or l k (0, 0)).1)
        ∙ ap₂ ◌⊗◌ (sym (masked_derivative (get_or l k (0, 0)).0 s x)) (sym (masks (get_or l k (0, 0)).1))
        ∙ exchange (power R.ops x s) (derivative R.ops (get_or l k (0, 0)).0 s x) g (derivative R.ops (get_or l k (0, 0)).1 t y)

    -- so times the coefficients it is that multiple of the Hasse derivative
    multiple_of_hasse : (q : List K)
        → dot R.ops (length l) (masked_row R.ops test l s t x c) (λ k. get_or q k o)
        ≡ power R.ops x s ⊗ g ⊗ hasse R.ops (terms R.ops q l) s t x y
    multiple_of_hasse q =
        dot_equal R.ops (length l) (masked_row R.ops test l s t x c) (λ k. power R.ops x s ⊗ g ⊗ row R.ops l s t x y k) (λ k. get_or q k o) (λ k. get_or q k o)
        (λ k h. multiple_entry k) (λ k h. refl)
        ∙ dot_multiple R (length l) (row R.ops l s t x y) (λ k. get_or q k o) (power R.ops x s ⊗ g)
        ∙ ap (λ (z : K). power R.ops x s ⊗ g ⊗ z) (sym (hasse_is_dot R l q s t x y))

module _ (R : Ring) (F : IsField R) where
  open R.ops use {K, o, mul as ◌⊗◌}

  infixl 70 ◌⊗◌
  -- a power of what is not zero can be cancelled
  cancel_power : (x : K) → x ≢ o → (n : ℕ) (a : K) → power R.ops x n ⊗ a ≡ o → a ≡ o
  cancel_power x nz zero a h = sym (one_times R a) ∙ ap (λ (p : K). p ⊗ a) (sym (power_zero R.ops x)) ∙ h
  cancel_power x nz (suc n) a h =
      cancel_power x nz n a
      (cancel R F x (power R.ops x n ⊗ a) nz (sym (times_assoc R x (power R.ops x n) a) ∙ ap (λ (p : K). p ⊗ a) (sym (power_suc R.ops x n)) ∙ h))

module _ (A R : Ops) (h : Hom A R) where
  open R use {K, mul as ◌⊗◌}
  open h use {φ, φ_zero, φ_mul}

  infixl 70 ◌⊗◌
  -- a map that keeps zero carries what masks leave
  carry_masked : (p q : Bool) (x : A.K) → φ (masked A p q x) ≡ masked R p q (φ x)
  carry_masked true true x = refl
  carry_masked false true x = φ_zero
  carry_masked p false x = φ_zero

  -- and so masked rows
  carry_masked_row : (test : ℕ → ℕ → Bool) (l : List (ℕ × ℕ)) (s t : ℕ) (x y : A.K) (k : ℕ)
      → φ (masked_row A test l s t x y k) ≡ masked_row R test l s t (φ x) (φ y) k
  carry_masked_row test l s t x y k =
      carry_masked (within (get_or l k (0, 0)).0 s) (test (get_or l k (0, 0)).1 t) (A.mul (power A x (get_or l k (0, 0)).0) (power A y (get_or l k (0, 0)).1))
      ∙ ap (masked R (within (get_or l k (0, 0)).0 s) (test (get_or l k (0, 0)).1 t))
      (φ_mul (power A x (get_or l k (0, 0)).0) (power A y (get_or l k (0, 0)).1)
      ∙ ap₂ ◌⊗◌ (carry_power A R h x (get_or l k (0, 0)).0) (carry_power A R h y (get_or l k (0, 0)).1))

module _ (C : Code) (F : FieldOf C) where
  -- the operations on elements
  abbrev G : Ops
  G = F.ring.ops

  -- the operations on numbers
  abbrev N : Ops
  N = numbers C

  -- the number of an element
  abbrev φ : G.K → ℕ
  φ = F.number.φ

  -- a symbol other than 0 stands for an element other than zero
  element_nonzero : (a : ℕ) → a < C.symbols → a ≢ 0 → F.element a ≢ G.o
  element_nonzero a h n e = n (zero_element C F a h e)

  -- only the number of zero is 0
  zero_of_number : (x : G.K) → φ x ≡ 0 → x ≡ G.o
  zero_of_number x e = number_injective C F x G.o (e ∙ sym F.number.φ_zero)

  -- no point is 0, where α is not
  pub point_nonzero : C.α ≢ 0 → (i : ℕ) → point C i ≢ 0
  point_nonzero n i e =
      let p = zero_of_number (power G (F.element C.α) i) (number_power C F C.α F.α_symbol i ∙ e) in
      let z : ◌≡◌ {A = ℕ} 1 0 =
      sym F.number.φ_one
      ∙ ap φ
      (cancel_power F.ring F.field (F.element C.α) (element_nonzero C.α F.α_symbol n) i G.i
      (ap (λ (x : G.K). G.mul x G.i) p ∙ zero_times F.ring G.i))
      ∙ F.number.φ_zero in
      let f : ⊥ = omega arith in f

  module _ (test : ℕ → ℕ → Bool) (l : List (ℕ × ℕ)) (s t a c : ℕ) (ha : a < C.symbols) (hc : c < C.symbols) where
    -- an entry of a masked row, for that of the elements
    number_masked_entry : (k : ℕ) → φ (masked_row G test l s t (F.element a) (F.element c) k) ≡ masked_row N test l s t a c k
    number_masked_entry k =
        carry_masked_row G N F.number test l s t (F.element a) (F.element c) k
        ∙ ap₂ (λ (x y : ℕ). masked_row N test l s t x y k) (F.number_element a ha) (F.number_element c hc)

    -- it is a symbol
    pub masked_symbol : (k : ℕ) → masked_row (numbers C) test l s t a c k < C.symbols
    masked_symbol k =
        subst (λ (x : ℕ). x < C.symbols) (number_masked_entry k) (F.number_symbol (masked_row G test l s t (F.element a) (F.element c) k))

    module _ (q : List ℕ) (sq : Symbols C q) where
      -- a masked row times the coefficients, for that of the elements
      number_masked : φ (dot G (length l) (masked_row G test l s t (F.element a) (F.element c)) (λ k. get_or (elements C F q) k G.o))
          ≡ dot N (length l) (masked_row N test l s t a c) (λ k. get_or q k 0)
      number_masked =
          carry_dot G N F.number (length l) (masked_row G test l s t (F.element a) (F.element c)) (λ k. get_or (elements C F q) k G.o)
          ∙ dot_equal N (length l) _ (masked_row N test l s t a c) _ (λ k. get_or q k 0) (λ k h. number_masked_entry k) (λ k h. number_entry C F q sq k)

      -- where g masks the derivatives by y and can be cancelled, the masked row and the condition vanish together
      vanish_together : (b : ℕ) → b < C.symbols → a ≢ 0 → (g : G.K)
          → ((e : ℕ) → G.mul g (derivative G e t (F.element b)) ≡ cond (test e t) (power G (F.element c) e) G.o)
          → ((z : G.K) → G.mul g z ≡ G.o → z ≡ G.o)
          → (dot N (length l) (masked_row N test l s t a c) (λ k. get_or q k 0) ≡ 0 → hasse N (terms N q l) s t a b ≡ 0)
          × (hasse N (terms N q l) s t a b ≡ 0 → dot N (length l) (masked_row N test l s t a c) (λ k. get_or q k 0) ≡ 0)
      vanish_together b hb na g masks cancels =
          let H = hasse G (terms G (elements C F q) l) s t (F.element a) (F.element b) in
          let r = multiple_of_hasse F.ring test t (F.element b) (F.element c) g masks l s (F.element a) (elements C F q) in
          let d = number_hasse_at C F l q s t a b sq ha hb in (
            λ h.
                sym d
                ∙ ap φ (cancels H (cancel_power F.ring F.field (F.element a) (element_nonzero a ha na) s (G.mul g H)
                (sym (times_assoc F.ring (power G (F.element a) s) g H) ∙ sym r ∙ zero_of_number _ (number_masked ∙ h))))
                ∙ F.number.φ_zero,
            λ h.
                sym number_masked
                ∙ ap φ (r ∙ ap (λ (z : G.K). G.mul (G.mul (power G (F.element a) s) g) z) (zero_of_number H (d ∙ h))
                ∙ times_zero F.ring (G.mul (power G (F.element a) s) g))
                ∙ F.number.φ_zero,
          )

  module _ (l : List (ℕ × ℕ)) (q : List ℕ) (sq : Symbols C q) (s t a : ℕ) (ha : a < C.symbols) (na : a ≢ 0) where
    -- at two symbols that are not 0, the values where both powers have the bits of the order
    pub masked_solves : (b : ℕ) → b < C.symbols → b ≢ 0
        → (dot (numbers C) (length l) (masked_row (numbers C) within l s t a b) (λ k. get_or q k 0) ≡ 0 → hasse (numbers C) (terms (numbers C) q l) s t a b ≡ 0)
        × (hasse (numbers C) (terms (numbers C) q l) s t a b ≡ 0 → dot (numbers C) (length l) (masked_row (numbers C) within l s t a b) (λ k. get_or q k 0) ≡ 0)
    masked_solves b hb nb =
        vanish_together within l s t a b ha hb q sq b hb na (power G (F.element b) t) (masks_within F.ring t (F.element b))
        (cancel_power F.ring F.field (F.element b) (element_nonzero b hb nb) t)

    -- at a symbol and 0, those where the power of y is the order
    pub masked_solves_at_zero :
        (dot (numbers C) (length l) (masked_row (numbers C) eqb l s t a 1) (λ k. get_or q k 0) ≡ 0 → hasse (numbers C) (terms (numbers C) q l) s t a 0 ≡ 0)
        × (hasse (numbers C) (terms (numbers C) q l) s t a 0 ≡ 0 → dot (numbers C) (length l) (masked_row (numbers C) eqb l s t a 1) (λ k. get_or q k 0) ≡ 0)
    masked_solves_at_zero =
        vanish_together eqb l s t a 1 ha (one_symbol C F) q sq 0 (zero_symbol C F) na G.i
        (λ e. ap (λ (y : G.K). G.mul G.i (derivative G e t y)) (element_zero C F) ∙ masks_equal F.ring t e
        ∙ ap (λ (y : G.K). cond (eqb e t) (power G y e) G.o) (sym (element_one C F)))
        (λ z h. sym (one_times F.ring z) ∙ h)
