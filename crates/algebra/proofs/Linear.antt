-- A Hasse condition is linear in the coefficients: a row times the coefficients. So the lists of coefficients that pass are closed under sums.
-- Assumes nothing.
use mathlib.Core.List.{List, [], ◌∷◌}
use mathlib.Core.Path.{◌≡◌, refl, sym, ◌∙◌, ap, ap₂}
use Prim.Native.Nat.{ℕ, zero, suc, ◌≤◌, ◌<◌}
use native.Mathlib.Decide.{ℕ_discrete}
use native.Mathlib.Omega.{arith}
use lib.ListN.{length, get_or}
use Rattle.definitions.specs.Field.{Ops}
use Rattle.definitions.specs.Polynomial.{Term, terms, derivative, hasse, Passes}
use Rattle.definitions.specs.Roots.{plus}
use Rattle.algebra.specs.Dot.{dot}
use Rattle.algebra.specs.Ring.{Ring, Hom}
use Rattle.algebra.proofs.RingLaws.{ring, plus_assoc, plus_comm, plus_zero, times_zero}

module _ (A : Ops) where
  open A use {K, o, add as ◌⊕◌, mul as ◌⊗◌}

  infixl 60 ◌⊕◌
  infixl 70 ◌⊗◌
  -- a sum of nothing
  pub dot_none : (r q : ℕ → K) → dot A zero r q ≡ o
  unfolding dot
  dot_none r q = refl

  -- one entry more
  pub dot_suc : (n : ℕ) (r q : ℕ → K) → dot A (suc n) r q ≡ dot A n r q ⊕ r n ⊗ q n
  unfolding dot
  dot_suc n r q = refl

  -- products that are zero from j on add nothing
  pub dot_ended : ((x : K) → x ⊕ o ≡ x) → (n j : ℕ) (r q : ℕ → K) → j ≤ n → ((k : ℕ) → j ≤ k → k < n → r k ⊗ q k ≡ o) → dot A n r q ≡ dot A j r q
  dot_ended neutral zero j r q h e = let z : j ≡ zero = omega arith in ap (λ (x : ℕ). dot A x r q) (sym z)
  dot_ended neutral (suc n) j r q h e =
      elim (ℕ_discrete j (suc n)) [
        | yes d ↦ ap (λ (x : ℕ). dot A x r q) (sym d)
        | no d ↦
            dot_suc n r q ∙ ap (λ (x : K). dot A n r q ⊕ x) (e n (omega arith) (omega arith)) ∙ neutral (dot A n r q)
            ∙ dot_ended neutral n j r q (omega arith) (λ k l f. e k l (omega arith))
      ]

  -- the row of the condition of order (s, t) at (x, y): its entry at each monomial
  abbrev pub row : List (ℕ × ℕ) → ℕ → ℕ → K → K → ℕ → K
  row l s t x y k = derivative A (get_or l k (0, 0)).0 s x ⊗ derivative A (get_or l k (0, 0)).1 t y

  -- the polynomial without terms
  pub hasse_nil : (s t : ℕ) (x y : K) → hasse A [] s t x y ≡ o
  unfolding hasse
  hasse_nil s t x y = refl

  -- one term more
  pub hasse_cons : (m : Term A) (q : List (Term A)) (s t : ℕ) (x y : K)
      → hasse A (m ∷ q) s t x y ≡ m.0 ⊗ derivative A m.1 s x ⊗ derivative A m.2 t y ⊕ hasse A q s t x y
  unfolding hasse
  hasse_cons m q s t x y = refl

  -- equal rows and vectors have equal products
  pub dot_equal : (n : ℕ) (r s p q : ℕ → K) → ((k : ℕ) → k < n → r k ≡ s k) → ((k : ℕ) → k < n → p k ≡ q k) → dot A n r p ≡ dot A n s q
  unfolding dot
  dot_equal zero r s p q e f = refl
  dot_equal (suc n) r s p q e f =
      ap₂ ◌⊕◌ (dot_equal n r s p q (λ k h. e k (omega arith)) (λ k h. f k (omega arith))) (ap₂ ◌⊗◌ (e n (omega arith)) (f n (omega arith)))

module _ (A R : Ops) (h : Hom A R) where
  open R use {K, o, add as ◌⊕◌, mul as ◌⊗◌}
  open h use {φ, φ_zero, φ_add, φ_mul}

  infixl 60 ◌⊕◌
  infixl 70 ◌⊗◌
  -- a map that keeps sums and products carries products of rows and vectors
  pub carry_dot : (n : ℕ) (r q : ℕ → A.K) → φ (dot A n r q) ≡ dot R n (λ k. φ (r k)) (λ k. φ (q k))
  unfolding dot
  carry_dot zero r q = φ_zero
  carry_dot (suc n) r q = φ_add (dot A n r q) (A.mul (r n) (q n)) ∙ ap₂ ◌⊕◌ (carry_dot n r q) (φ_mul (r n) (q n))

module _ (A : Ring) where
  open A.ops use {K, o, i, add as ◌⊕◌, mul as ◌⊗◌}

  infixl 60 ◌⊕◌
  infixl 70 ◌⊗◌
  -- the first summand, taken out
  dot_first : (n : ℕ) (r q : ℕ → K) → dot A.ops (suc n) r q ≡ r zero ⊗ q zero ⊕ dot A.ops n (λ k. r (suc k)) (λ k. q (suc k))
  unfolding dot
  dot_first zero r q = plus_comm A o (r zero ⊗ q zero)
  dot_first (suc n) r q =
      ap (λ (z : K). z ⊕ r (suc n) ⊗ q (suc n)) (dot_first n r q)
      ∙ plus_assoc A (r zero ⊗ q zero) (dot A.ops n (λ k. r (suc k)) (λ k. q (suc k))) (r (suc n) ⊗ q (suc n))

  -- one entry more
  multiple_step : (x c r q : K) → c ⊗ x ⊕ c ⊗ r ⊗ q ≡ c ⊗ (x ⊕ r ⊗ q)
  multiple_step x c r q = simp ring

  -- a multiple of a row
  pub dot_multiple : (n : ℕ) (r q : ℕ → K) (c : K) → dot A.ops n (λ k. c ⊗ r k) q ≡ c ⊗ dot A.ops n r q
  unfolding dot
  dot_multiple zero r q c = sym (times_zero A c)
  dot_multiple (suc n) r q c =
      ap (λ (x : K). x ⊕ c ⊗ r n ⊗ q n) (dot_multiple n r q c) ∙ multiple_step (dot A.ops n r q) c (r n) (q n)

  -- the coefficient behind its entry
  turn : (c d e z : K) → c ⊗ d ⊗ e ⊕ z ≡ d ⊗ e ⊗ c ⊕ z
  turn c d e z = simp ring

  -- a Hasse derivative is a row times the coefficients
  pub hasse_is_dot : (l : List (ℕ × ℕ)) (q : List K) (s t : ℕ) (x y : K)
      → hasse A.ops (terms A.ops q l) s t x y ≡ dot A.ops (length l) (row A.ops l s t x y) (λ k. get_or q k o)
  unfolding terms
  hasse_is_dot l [] s t x y =
      hasse_nil A.ops s t x y
      ∙ sym (dot_ended A.ops (plus_zero A) (length l) 0 (row A.ops l s t x y) (λ k. o) (omega arith) (λ k _ _. times_zero A (row A.ops l s t x y k))
      ∙ dot_none A.ops (row A.ops l s t x y) (λ k. o))
  hasse_is_dot [] (c ∷ q) s t x y = hasse_nil A.ops s t x y ∙ sym (dot_none A.ops _ _)
  hasse_is_dot (m ∷ l) (c ∷ q) s t x y =
      hasse_cons A.ops (c, m.0, m.1) (terms A.ops q l) s t x y
      ∙ ap (λ (z : K). c ⊗ derivative A.ops m.0 s x ⊗ derivative A.ops m.1 t y ⊕ z) (hasse_is_dot l q s t x y)
      ∙ turn c (derivative A.ops m.0 s x) (derivative A.ops m.1 t y) (dot A.ops (length l) (row A.ops l s t x y) (λ k. get_or q k o))
      ∙ sym (dot_first (length l) (row A.ops (m ∷ l) s t x y) (λ k. get_or (c ∷ q) k o))

  -- one monomial more
  plus_step : (c d e f z w : K) → (c ⊕ d) ⊗ e ⊗ f ⊕ (z ⊕ w) ≡ (c ⊗ e ⊗ f ⊕ z) ⊕ (d ⊗ e ⊗ f ⊕ w)
  plus_step c d e f z w = simp ring

  -- the derivative of a sum
  pub hasse_plus : (l : List (ℕ × ℕ)) (p q : List K) (s t : ℕ) (x y : K)
      → hasse A.ops (terms A.ops (plus A.ops p q) l) s t x y
      ≡ hasse A.ops (terms A.ops p l) s t x y ⊕ hasse A.ops (terms A.ops q l) s t x y
  unfolding terms plus
  hasse_plus l [] q s t x y = simp (hasse_nil, ring)
  hasse_plus l (c ∷ p) [] s t x y = simp (hasse_nil, ring)
  hasse_plus [] (c ∷ p) (d ∷ q) s t x y = simp (hasse_nil, ring)
  hasse_plus (m ∷ l) (c ∷ p) (d ∷ q) s t x y =
      simp (hasse_cons, hasse_plus l p q s t x y)
      (plus_step c d (derivative A.ops m.0 s x) (derivative A.ops m.1 t y) (hasse A.ops (terms A.ops p l) s t x y)
      (hasse A.ops (terms A.ops q l) s t x y))

  -- a sum of lists that pass, passes
  pub passes_plus : (l : List (ℕ × ℕ)) (p q : List K) (x y : K) (m : ℕ) → Passes A.ops (terms A.ops p l) x y m
      → Passes A.ops (terms A.ops q l) x y m → Passes A.ops (terms A.ops (plus A.ops p q) l) x y m
  passes_plus l p q x y m hp hq s t k = hasse_plus l p q s t x y ∙ ap₂ ◌⊕◌ (hp s t k) (hq s t k) ∙ plus_zero A o
