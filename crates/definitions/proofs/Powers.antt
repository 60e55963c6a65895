-- How many monomials there are up to a degree, and how many powers of y and how many monomials lie within the bound: for every weight of y, every degree and every cost.
-- So the rooms of the limits hold them.
-- Assumes nothing.
use mathlib.Core.Path.{◌≡◌}
use Prim.Native.Nat.{ℕ, zero, suc, ◌+◌, ◌*◌, ◌/◌, ◌≤◌, ◌<◌}
use native.Mathlib.Decide.{dec_lt}
use native.Mathlib.Nat.{mul-suc, mul-add, mul_left_comm, mul-div-le, lt-mul-div-succ, mul-le-mul, mul-le-mul_left}
use native.Mathlib.Numerals.{add-one}
use native.Mathlib.Omega.{arith}
use Rattle.definitions.proofs.Bound.{count_zero, count_suc, bound_le, bound_is_least}
use Rattle.definitions.proofs.Sums.{next_product, falling_sum}
use Rattle.definitions.specs.Bound.{count, bound}
use Rattle.definitions.specs.Limits.{greatest_limit, coefficient_room, greatest_rows}

-- N(D) in a closed form: with j the whole part of D/v, it is (j + 1) (D + 1) - v j (j + 1) / 2
pub count_closed : (v D : ℕ) → 2 * (suc (D / v) * (D + 1)) ≡ 2 * count v D + v * (suc (D / v) * (D / v))
count_closed v D = rw (add-one (D / v)) (falling_sum v (D + 1) (D / v) (let a = mul-div-le D v in omega arith))

module _ (v : ℕ) (pos : 1 ≤ v) (C : ℕ) where
  -- with j the whole part of bound/v, there are at most j + 1 more monomials than the cost
  pub count_at_bound : count v (bound v C) ≤ C + suc (bound v C / v)
  count_at_bound = last_degree (bound v C) (bound_is_least v pos C).1
    where
      last_degree : (D : ℕ) → ((E : ℕ) → E < D → count v E ≤ C) → count v D ≤ C + suc (D / v)
      last_degree zero few = let e = count_zero v pos in omega arith
      last_degree (suc D) few = let e = count_suc v pos D in let k = few D (omega arith) in omega arith

  -- v (j + 1) j is at most twice the cost
  pub powers_within : v * (suc (bound v C / v) * (bound v C / v)) ≤ 2 * C
  powers_within =
      let j : ℕ = bound v C / v in
      let low = mul-div-le (bound v C) v in
      let least : suc j * (v * j + 1) ≤ suc j * (bound v C + 1) = mul-le-mul_left (suc j) (omega arith) in
      let a = mul-add (suc j) (v * j) 1 in
      let b = mul_left_comm (suc j) v j in
      let closed = count_closed v (bound v C) in
      let most = count_at_bound in
      omega arith

  -- and v (j + 2) (j + 1) is more
  pub powers_enough : 2 * C < v * (suc (suc (bound v C / v)) * suc (bound v C / v))
  powers_enough =
      let j : ℕ = bound v C / v in
      let high : bound v C < v * suc j = rw (add-one j) at (lt-mul-div-succ (bound v C) pos) in
      let most : suc j * (bound v C + 1) ≤ suc j * (v * suc j) = mul-le-mul_left (suc j) (omega arith) in
      let a = mul_left_comm (suc j) v (suc j) in
      let e : suc j * suc j ≡ suc j * j + suc j = (let b = mul-suc (suc j) j in omega arith) in
      let c : v * (suc j * suc j) ≡ v * (suc j * j) + v * suc j = rw e (mul-add v (suc j * j) (suc j)) in
      let p = next_product v j in
      let closed = count_closed v (bound v C) in
      let above = (bound_is_least v pos C).0 in
      omega arith

  -- where (i + 2) (i + 1) is more than twice the cost there are at most i powers of y
  pub few_powers : (i : ℕ) → 2 * C < suc (suc i) * suc i → bound v C / v ≤ i
  few_powers i h =
      elim (dec_lt i (bound v C / v)) [
        | yes l ↦
            let a = powers_within in
            let b : suc (suc i) * suc i ≤ suc (bound v C / v) * (bound v C / v) = mul-le-mul (omega arith) l in
            let d : 1 * (suc (suc i) * suc i) ≤ v * (suc (bound v C / v) * (bound v C / v)) = mul-le-mul pos b in
            let z : ⊥ = omega arith in
            absurd z
        | no n ↦ omega arith
      ]

  module _ (cheap : C ≤ greatest_limit) where
    -- within the greatest limit the bound is too
    pub bound_fits : bound v C ≤ greatest_limit
    bound_fits = let b = bound_le v pos C in omega arith

    -- no monomial has more powers of y than a list has rows
    pub powers_of_y : bound v C / v ≤ greatest_rows
    powers_of_y = few_powers greatest_rows (omega arith)

    -- and the room of interpolation holds the coefficients
    pub coefficients_fit : count v (bound v C) ≤ coefficient_room
    coefficients_fit = let a = count_at_bound in let b = powers_of_y in omega arith
