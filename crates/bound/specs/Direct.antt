-- "The bound without counting" (document 02, order 3), as one statement of the definitions.
-- Assumes nothing.
use Rattle.std.specs.Prelude.{◌≡◌, ℕ, ◌+◌, ◌-◌, ◌*◌, ◌/◌, ◌≤◌}
use Rattle.definitions.specs.Bound.{bound}

-- "m the largest whole number such that v·m·(m-1) is at most 2C"
abbrev pub Largest : ℕ → ℕ → ℕ → Type 0
Largest v C m = (v * (m * (m - 1)) ≤ 2 * C) × ((j : ℕ) → v * (j * (j - 1)) ≤ 2 * C → j ≤ m)

-- of every weight v of y from 1 on, and every cost C
pub record DirectForm : Type 0 where
  -- there is one, the number of powers of y within the bound, and no other
  pub largest_powers : (v C : ℕ) → 1 ≤ v → Largest v C (bound v C / v + 1)
  pub largest_once : (v C m n : ℕ) → Largest v C m → Largest v C n → m ≡ n
  -- "the bound is the whole part of C/m + v(m-1)/2": one whole part of the whole sum, over 2m
  pub direct : (v C m : ℕ) → 1 ≤ v → Largest v C m → bound v C ≡ (2 * C + v * (m * (m - 1))) / (2 * m)
