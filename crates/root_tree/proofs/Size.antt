-- How large an array of D + 1 columns of height D/v + 1 is: at most twice as many places as there are monomials of weighted degree at most D.
-- Assumes nothing.
use mathlib.Core.Path.{◌≡◌}
use Prim.Native.Nat.{ℕ, suc, ◌+◌, ◌*◌, ◌/◌, ◌≤◌}
use native.Mathlib.Nat.{mul-div-le, mul_comm, mul_left_comm, mul-le-mul_left}
use native.Mathlib.Numerals.{add-one}
use native.Mathlib.Omega.{arith}
use Rattle.definitions.proofs.Powers.{count_closed}
use Rattle.definitions.specs.Bound.{count}

pub array_size : (v D : ℕ) → (D + 1) * (D / v + 1) ≤ 2 * count v D
array_size v D =
    let j : ℕ = D / v in
    let low = mul-div-le D v in
    let few : suc j * (v * j) ≤ suc j * (D + 1) = mul-le-mul_left (suc j) (omega arith) in
    let a = mul_left_comm (suc j) v j in
    let b : (D + 1) * (j + 1) ≡ suc j * (D + 1) = rw (add-one j) (mul_comm (D + 1) (suc j)) in
    let closed = count_closed v D in
    omega arith
