-- Binomial coefficients modulo 2, and the Hasse derivative of a power.
-- Assumes nothing.
use mathlib.Core.Path.{◌≡◌, refl, sym, ◌∙◌, ap₂}
use Prim.Native.Nat.{ℕ, zero, suc, ◌+◌, ◌-◌, ◌%◌, ◌<◌}
use native.Mathlib.Decide.{dec_lt}
use native.Mathlib.Nat.{le_of_suc-le-suc, not-suc-le-zero}
use native.Mathlib.Omega.{arith}
use Rattle.definitions.proofs.Codeword.{power_suc}
use Rattle.definitions.specs.Field.{power}
use Rattle.definitions.specs.Polynomial.{binomial, modulo2, derivative}
use Rattle.algebra.specs.Ring.{Ring}
use Rattle.algebra.proofs.RingLaws.{ring, plus_zero, zero_plus, plus_self, times_one, zero_times}

-- nothing can be taken in one way
pub binomial_zero : (n : ℕ) → binomial n zero ≡ 1
unfolding binomial
binomial_zero zero = refl
binomial_zero (suc n) = refl

-- Pascal's rule
pub binomial_suc : (n k : ℕ) → binomial (suc n) (suc k) ≡ binomial n k + binomial n (suc k)
unfolding binomial
binomial_suc n k = refl

-- no more than n of n can be taken
pub binomial_over : (n k : ℕ) → n < k → binomial n k ≡ 0
unfolding binomial
binomial_over n zero h = absurd (not-suc-le-zero h)
binomial_over zero (suc k) h = refl
binomial_over (suc n) (suc k) h = ap₂ ◌+◌ (binomial_over n k (le_of_suc-le-suc h)) (binomial_over n (suc k) (omega arith))

module _ (R : Ring) where
  open R.ops use {K, o, i, add as ◌⊕◌, mul as ◌⊗◌}

  infixl 60 ◌⊕◌
  infixl 70 ◌⊗◌
  -- 0 counts as the zero of the ring
  pub modulo2_zero : modulo2 R.ops 0 ≡ o
  unfolding modulo2
  modulo2_zero = refl

  -- 1 counts as its one
  pub modulo2_one : modulo2 R.ops 1 ≡ i
  unfolding modulo2
  modulo2_one = refl

  -- two bits: four cases, and 1 + 1 is 0 in characteristic 2
  bits_add : (r s : ℕ) → r < 2 → s < 2 → modulo2 R.ops (r + s) ≡ modulo2 R.ops r ⊕ modulo2 R.ops s
  unfolding modulo2
  bits_add zero zero h k = sym (plus_zero R o)
  bits_add zero (suc zero) h k = sym (zero_plus R i)
  bits_add (suc zero) zero h k = sym (plus_zero R i)
  bits_add (suc zero) (suc zero) h k = sym (plus_self R i)
  bits_add zero (suc (suc s)) h k = let z : ⊥ = omega arith in absurd z
  bits_add (suc zero) (suc (suc s)) h k = let z : ⊥ = omega arith in absurd z
  bits_add (suc (suc r)) s h k = let z : ⊥ = omega arith in absurd z

  -- only the remainder counts
  modulo2_bit : (m n : ℕ) → m % 2 ≡ n % 2 → modulo2 R.ops m ≡ modulo2 R.ops n
  unfolding modulo2
  modulo2_bit m n e = rw e

  -- modulo 2 sums go to sums
  modulo2_add : (m n : ℕ) → modulo2 R.ops (m + n) ≡ modulo2 R.ops m ⊕ modulo2 R.ops n
  modulo2_add m n =
      modulo2_bit (m + n) (m % 2 + n % 2) (omega arith) ∙ bits_add (m % 2) (n % 2) (omega arith) (omega arith)
      ∙ ap₂ ◌⊕◌ (modulo2_bit (m % 2) m (omega arith)) (modulo2_bit (n % 2) n (omega arith))

  -- the definition, as an equation
  pub derivative_at_lem : (a s : ℕ) (x : K) → derivative R.ops a s x ≡ modulo2 R.ops (binomial a s) ⊗ power R.ops x (a - s)
  unfolding derivative
  derivative_at_lem a s x = refl

  -- 1 has the derivative 1 of order 0
  pub derivative_zero_zero : (x : K) → derivative R.ops zero zero x ≡ i
  unfolding derivative modulo2 binomial power
  derivative_zero_zero x = times_one R i

  -- and 0 of any other order
  pub derivative_zero_suc : (s : ℕ) (x : K) → derivative R.ops zero (suc s) x ≡ o
  unfolding derivative modulo2 binomial
  derivative_zero_suc s x = zero_times R (power R.ops x (zero - suc s))

  -- the derivative of order 0 is the power itself
  pub derivative_suc_zero : (a : ℕ) (x : K) → derivative R.ops (suc a) zero x ≡ x ⊗ derivative R.ops a zero x
  derivative_suc_zero a x =
      let e : suc a - zero ≡ suc (a - zero) = omega arith in
      rw (derivative_at_lem (suc a) zero x, derivative_at_lem a zero x, binomial_zero a, binomial_zero (suc a), e) (simp (modulo2_one, power_suc, ring))

  -- x times the power that is one too low: where there is none the binomial is zero
  lower : (a s : ℕ) (x : K) → x ⊗ derivative R.ops a (suc s) x ≡ modulo2 R.ops (binomial a (suc s)) ⊗ power R.ops x (a - s)
  lower a s x =
      elim (dec_lt s a) [
        | yes h ↦ let e : a - s ≡ suc (a - suc s) = omega arith in rw (derivative_at_lem a (suc s) x, e) (simp (power_suc, ring))
        | no n ↦ rw (derivative_at_lem a (suc s) x, binomial_over a (suc s) (omega arith)) (simp (modulo2_zero, ring))
      ]

  -- Pascal's rule of the derivatives
  pub derivative_suc_suc : (a s : ℕ) (x : K)
      → derivative R.ops (suc a) (suc s) x ≡ x ⊗ derivative R.ops a (suc s) x ⊕ derivative R.ops a s x
  derivative_suc_suc a s x =
      let e : suc a - suc s ≡ a - s = omega arith in
      rw (lower a s x, derivative_at_lem (suc a) (suc s) x, derivative_at_lem a s x, binomial_suc a s, e, modulo2_add (binomial a s) (binomial a (suc s))) (simp ring)
