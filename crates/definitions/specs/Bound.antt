-- The bound of document 01. v is k - 1.
-- Assumes nothing.
use Rattle.std.specs.Prelude.{ℕ, ◌+◌, ◌-◌, ◌*◌, ◌/◌, ltb}
use Rattle.definitions.specs.Tools.{sum, smallest}

-- "N(D) counts the monomials of weighted degree at most D: the sum of D+1-vb for b = 0 to the whole part of D/v"
abbrev pub count : ℕ → ℕ → ℕ
count v D = sum (D / v + 1) (λ (b : ℕ). D + 1 - v * b)

-- "The bound is the smallest D with N(D) > C": none above C is looked at, for N(C) > C
abbrev pub bound : ℕ → ℕ → ℕ
bound v C = smallest (λ (D : ℕ). ltb C (count v D)) C
