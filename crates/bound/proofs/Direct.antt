-- The bound without counting: the direct form of document 02 is the bound, for every weight of y and every cost.
-- Assumes nothing.
use mathlib.Core.Path.{◌≡◌, sym}
use Prim.Native.Nat.{ℕ, suc, ◌+◌, ◌-◌, ◌*◌, ◌/◌, ◌≤◌, ◌<◌}
use native.Mathlib.Decide.{dec_lt}
use native.Mathlib.Nat.{mul-add, mul_comm, mul_left_comm, mul-le-mul, mul-le-mul_left, div-eq_of_lt-le}
use native.Mathlib.Omega.{arith}
use Rattle.bound.specs.Direct.{Largest}
use Rattle.definitions.proofs.Bound.{bound_is_least}
use Rattle.definitions.proofs.Powers.{count_closed, count_at_bound, powers_within, powers_enough}
use Rattle.definitions.specs.Bound.{bound}

-- there is no more than one
pub largest_once : (v C m n : ℕ) → Largest v C m → Largest v C n → m ≡ n
largest_once v C m n a b = let g = a.1 n b.0 in let h = b.1 m a.0 in omega arith

-- m is the largest where the next one is too large
pub largest_is : (v C m : ℕ) → v * (m * (m - 1)) ≤ 2 * C → 2 * C < v * (suc m * m) → Largest v C m
largest_is v C m low high = (
  low,
  λ j h.
      elim (dec_lt m j) [
        | yes l ↦
            let a : suc m * m ≤ j * (j - 1) = mul-le-mul l (omega arith) in
            let b : v * (suc m * m) ≤ v * (j * (j - 1)) = mul-le-mul_left v a in
            let z : ⊥ = omega arith in
            absurd z
        | no n ↦ omega arith
      ],
)

module _ (v : ℕ) (pos : 1 ≤ v) (C : ℕ) where
  -- the largest is the number of powers of y within the bound
  pub largest_powers : Largest v C (suc (bound v C / v))
  largest_powers =
      let e : suc (bound v C / v) - 1 ≡ bound v C / v = omega arith in
      largest_is v C (suc (bound v C / v)) (rw e (powers_within v pos C)) (powers_enough v pos C)

  -- "the bound is the whole part of C/m + v(m-1)/2"
  pub direct : (m : ℕ) → Largest v C m → bound v C ≡ (2 * C + v * (m * (m - 1))) / (2 * m)
  direct m largest =
      let j : ℕ = bound v C / v in
      let e = largest_once v C m (suc j) largest largest_powers in
      let f : suc j - 1 ≡ j = omega arith in
      let closed = count_closed v (bound v C) in
      let a = mul-add (suc j) (bound v C) 1 in
      let b = mul_left_comm (bound v C) 2 (suc j) in
      let c = mul_comm (bound v C) (suc j) in
      let d = mul_left_comm (bound v C + 1) 2 (suc j) in
      let g = mul_comm (bound v C + 1) (suc j) in
      let most = count_at_bound v pos C in
      let above = (bound_is_least v pos C).0 in
      let whole : (2 * C + v * (suc j * j)) / (2 * suc j) ≡ bound v C = div-eq_of_lt-le (2 * suc j) (omega arith) (omega arith) in
      rw (e, f) (sym whole)
