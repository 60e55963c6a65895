-- The rows of the four systems: each cost within the limit has one that holds its conditions.
-- Assumes nothing.
use mathlib.Core.Bool.{cond}
use Prim.Native.Nat.{ℕ, ◌+◌, ◌*◌, ◌≤◌}
use native.Mathlib.Nat.{mul-le-mul}
use native.Mathlib.Omega.{arith}
use borrow.Author.Tests.{leb-true}
use lib.Dec.{leb}
use Rattle.blocks.specs.Row.{block}
use Rattle.definitions.proofs.Tools.{split}
use Rattle.definitions.specs.Field.{sixteen}
use Rattle.definitions.specs.Limits.{greatest_limit}
use Rattle.definitions.specs.Weights.{entry_cost}
use Rattle.polynomial.specs.Found.{middle_rows, upper_rows}

-- those of the smallest that has as many as the cost
abbrev pub rows_for : ℕ → ℕ
rows_for cost = cond (leb cost block) block (cond (leb cost middle_rows) middle_rows (cond (leb cost upper_rows) upper_rows greatest_limit))

pub system_fits : (cost : ℕ) → cost ≤ greatest_limit → (cost ≤ rows_for cost) × (rows_for cost ≤ greatest_limit)
system_fits cost cheap =
    split (leb cost block) (λ s. rw s (leb-true cost block s, omega arith))
    (λ s. rw s (split (leb cost middle_rows) (λ m. rw m (leb-true cost middle_rows m, omega arith))
    (λ m. rw m (split (leb cost upper_rows) (λ u. rw u (leb-true cost upper_rows u, omega arith)) (λ u. rw u (cheap, omega arith))))))

-- a clean tag of sixteen symbols costs no more than one with all positions at a greater level
grown : (n L g : ℕ) → n ≤ sixteen.positions → L ≤ g → n * entry_cost L ≤ sixteen.positions * entry_cost g
grown n L g few low =
    let more : L + 1 ≤ g + 1 = omega arith in
    let product : L * (L + 1) ≤ g * (g + 1) = mul-le-mul low more in
    let each : entry_cost L ≤ entry_cost g = omega arith in
    mul-le-mul few each

-- so the middle system holds it up to level 3, and the upper one up to level 4
pub tags_fit : (n L : ℕ) → n ≤ sixteen.positions → (L ≤ 3 → n * entry_cost L ≤ middle_rows) × (L ≤ 4 → n * entry_cost L ≤ upper_rows)
tags_fit n L few = (
  λ low. let most : n * entry_cost L ≤ 15 * 6 = grown n L 3 few low in omega arith,
  λ low. let most : n * entry_cost L ≤ 15 * 10 = grown n L 4 few low in omega arith,
)
