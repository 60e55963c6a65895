-- The powers of y that are counted, and the search for their number within the bound.
-- Assumes nothing.
use mathlib.Core.Path.{◌≡◌, sym}
use Prim.Native.Nat.{ℕ, suc, ◌+◌, ◌-◌, ◌*◌, ◌/◌, ◌≤◌, ◌<◌}
use mir.Syntax.{w64}
use mir.Val.{Fits}
use native.Mathlib.Nat.{div-le_self, div-lt_iff_lt-mul, le-div_iff_mul-le, mul_comm, mul-le-mul}
use native.Mathlib.Numerals.{add-one}
use native.Mathlib.Omega.{arith}
use Rattle.bound.proofs.Direct.{direct, largest_is}
use Rattle.definitions.proofs.Monomials.{power_within}
use Rattle.definitions.specs.Bound.{bound}

-- a power of y that is counted
pub power_counted : (v d b : ℕ) → b ≤ d / v → (v * b ≤ d) × (b ≤ d)
power_counted v d b h = let quotient = div-le_self d v in (power_within v d b h, omega arith)

module _ (v C m : ℕ) (pos : 0 < v) (within : m * (m - 1) ≤ 2 * C / v) where
  -- v m (m - 1) is at most twice the cost
  pub number_within : v * (m * (m - 1)) ≤ 2 * C
  number_within = let a = (le-div_iff_mul-le pos).0 within in let b = mul_comm v (m * (m - 1)) in omega arith

  -- where the next number is past the quotient, the bound is what the direct form says
  pub number_found : 2 * C / v < (m + 1) * m → (2 * C + v * (m * (m - 1))) / (2 * m) ≡ bound v C
  number_found h =
      let next : 2 * C / v < suc m * m = rw (add-one m) at h in
      let a = (div-lt_iff_lt-mul pos).0 next in
      let b = mul_comm v (suc m * m) in
      sym (direct v pos C m (largest_is v C m number_within (omega arith)))

-- a machine word holds the product of two numbers that are not much larger than a cost
pub product_fits : (a b : ℕ) → a ≤ 65537 → b ≤ 65537 → Fits w64 (a * b)
product_fits a b ha hb = let p : a * b ≤ 65537 * 65537 = mul-le-mul ha hb in omega arith
