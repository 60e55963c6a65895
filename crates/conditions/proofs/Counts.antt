-- How many conditions a point has.
-- Assumes nothing.
use mathlib.Core.Path.{◌≡◌}
use Prim.Native.Nat.{ℕ, zero, suc, ◌+◌, ◌-◌, ◌*◌}
use native.Mathlib.Nat.{mul-suc}
use native.Mathlib.Numerals.{add-one}
use native.Mathlib.Omega.{arith}
use Rattle.definitions.proofs.Sums.{falling_sum}
use Rattle.definitions.proofs.Tools.{sum_zero, sum_ext}
use Rattle.definitions.specs.Tools.{sum}
use Rattle.definitions.specs.Weights.{entry_cost}

-- a point of multiplicity m has m(m+1)/2 conditions
pub point_cost : (m : ℕ) → sum m (λ s. m - s) ≡ entry_cost m
point_cost zero = let e = sum_zero (λ s. 0 - s) in omega arith
point_cost (suc j) =
    let e = sum_ext (suc j) (λ s. suc j - s) (λ s. suc j - 1 * s) (λ s _. omega arith) in
    let p = falling_sum 1 (suc j) j (omega arith) in
    let a = mul-suc (suc j) j in
    let b = mul-suc (suc j) (suc j) in
    let f : suc j * (suc j + 1) ≡ suc j * suc (suc j) = rw (add-one (suc j)) in
    omega arith
