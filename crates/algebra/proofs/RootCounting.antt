-- Root counting with multiplicity: a polynomial that vanishes at distinct points, with multiplicities that sum to its length or more, is
-- zero.
-- Assumes nothing.
use mathlib.Core.List.{List, [], ◌∷◌}
use mathlib.Core.Logic.{◌≢◌}
use mathlib.Core.Path.{◌≡◌, refl, sym, ◌∙◌}
use Prim.Native.Nat.{ℕ, zero, suc, ◌+◌, ◌≤◌, ◌<◌, suc-le-suc}
use native.Mathlib.Nat.{not-suc-le-zero, zero-lt-suc}
use native.Mathlib.Omega.{arith}
use lib.ListN.{length, get_or}
use Rattle.definitions.proofs.Codeword.{value_nil, value_cons}
use Rattle.definitions.specs.Field.{Ops, value}
use Rattle.definitions.specs.Tools.{sum}
use Rattle.algebra.specs.Ring.{Ring, IsField}
use Rattle.algebra.proofs.RingLaws.{ring, plus_self, equal_of_sum, cancel}
use Rattle.algebra.proofs.Series.{mul_s, linear, Order, linear_mul_zero, linear_mul_suc}
use Rattle.algebra.proofs.Taylor.{quotient, length_quotient, taylor, taylor_zero, taylor_quotient}

module _ (A : Ops) where
  open A use {K, o}

  -- every coefficient is zero
  abbrev pub Zero : List K → Type 0
  Zero p = (t : ℕ) → get_or p t o ≡ o

  -- n points, no two of them equal
  abbrev pub Distinct : ℕ → (ℕ → K) → Type 0
  Distinct n x = (i j : ℕ) → i < j → j < n → x i ≢ x j

module _ (A : Ring) where
  open A.ops use {K, o, i, add as ◌⊕◌, mul as ◌⊗◌}

  infixl 60 ◌⊕◌
  infixl 70 ◌⊗◌
  -- p is zero where its value at a is, and its quotient by x + a
  zero_of_quotient : (a c : K) (p : List K) → value A.ops a (c ∷ p) ≡ o → Zero A.ops (quotient A.ops a p) → Zero A.ops (c ∷ p)
  unfolding quotient
  zero_of_quotient a c [] e z zero = simp (value_cons, value_nil, ring) at e
  zero_of_quotient a c [] e z (suc t) = refl
  zero_of_quotient a c (d ∷ p) e z zero = simp (z zero, ring) at (rw (value_cons A.ops a c (d ∷ p)) at e)
  zero_of_quotient a c (d ∷ p) e z (suc t) = zero_of_quotient a d p (z zero) (λ u. z (suc u)) t

  -- a factor X lowers the order by one
  order_tail : (m : ℕ) (s : ℕ → K) → Order A (suc m) (mul_s A (linear A o) s) → Order A m s
  order_tail m s h k l = simp (linear_mul_suc, ring) at (h (suc k) (suc-le-suc l))

  -- p vanishes at each of n points as often as m says
  abbrev pub Vanishes : ℕ → (ℕ → K) → (ℕ → ℕ) → List K → Type 0
  Vanishes n x m p = (j : ℕ) → j < n → Order A (m j) (taylor A (x j) p)

module _ (A : Ring) (F : IsField A) where
  open A.ops use {K, o, i, add as ◌⊕◌, mul as ◌⊗◌}

  infixl 60 ◌⊕◌
  infixl 70 ◌⊗◌
  -- a factor X + u keeps the order, where u is not zero
  order_unit : (u : K) → u ≢ o → (m : ℕ) (s : ℕ → K) → Order A m (mul_s A (linear A u) s) → Order A m s
  order_unit u n m s h zero l = cancel A F u (s zero) n (sym (linear_mul_zero A u s) ∙ h zero l)
  order_unit u n m s h (suc k) l =
      cancel A F u (s (suc k)) n (simp (order_unit u n m s h k (omega arith), ring) at (rw (linear_mul_suc A u s k) at (h (suc k) l)))

  -- away from a the quotient by x + a vanishes where the whole does
  vanishes_quotient : (a c : K) (p : List K) → value A.ops a (c ∷ p) ≡ o → (n : ℕ) (x : ℕ → K) (m : ℕ → ℕ) → ((j : ℕ) → j < n → x j ≢ a)
      → Vanishes A n x m (c ∷ p) → Vanishes A n x m (quotient A.ops a p)
  vanishes_quotient a c p e n x m away v j h =
      order_unit (x j ⊕ a) (λ z. away j h (equal_of_sum A (x j) a z)) (m j) (taylor A (x j) (quotient A.ops a p))
      (rw (taylor_quotient A a (x j) c p e) at (v j h))

  -- one point more: it is divided out as often as p vanishes there
  divide_out : (a : K) (k n : ℕ) (x : ℕ → K) (m : ℕ → ℕ) → ((j : ℕ) → j < n → x j ≢ a)
      → ((q : List K) → length q ≤ sum n m → Vanishes A n x m q → Zero A.ops q)
      → (p : List K) → length p ≤ sum n m + k → Order A k (taylor A a p) → Vanishes A n x m p → Zero A.ops p
  divide_out a zero n x m away ih p l r v = ih p (omega arith) v
  divide_out a (suc k) n x m away ih [] l r v = λ t. refl
  divide_out a (suc k) n x m away ih (c ∷ p) l r v =
      let e : value A.ops a (c ∷ p) ≡ o = sym (taylor_zero A a (c ∷ p)) ∙ r zero (zero-lt-suc k) in
      let r' : Order A (suc k) (mul_s A (linear A o) (taylor A a (quotient A.ops a p))) = rw (taylor_quotient A a a c p e, plus_self A a) at r in
      zero_of_quotient A a c p e
      (divide_out a k n x m away ih (quotient A.ops a p) (omega (arith, length_quotient A.ops a p))
      (order_tail A k (taylor A a (quotient A.ops a p)) r') (vanishes_quotient a c p e n x m away v))

  -- the theorem: as many roots as coefficients, counted with multiplicity, and every coefficient is zero
  pub root_counting : (n : ℕ) (x : ℕ → K) (m : ℕ → ℕ) → Distinct A.ops n x
      → (p : List K) → length p ≤ sum n m → Vanishes A n x m p → Zero A.ops p
  unfolding sum
  root_counting zero x m d [] l v = λ t. refl
  root_counting zero x m d (c ∷ p) l v = absurd (not-suc-le-zero l)
  root_counting (suc n) x m d p l v =
      divide_out (x n) (m n) n x m (λ j h. d j n h (omega arith)) (root_counting n x m (λ i j h k. d i j h (omega arith))) p l (v n (omega arith))
      (λ j h. v j (omega arith))
