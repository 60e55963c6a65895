-- A walk along the monomials in their order.
-- Assumes nothing.
use Rattle.std.specs.Prelude.{cond, ℕ, zero, suc, ◌+◌, ◌-◌, leb}

-- a monomial on the walk: the powers of x and y, and the weighted degree
abbrev pub Place : Type 0
Place = ℕ × ℕ × ℕ

-- a power of y more where v powers of x can be had for it, else the next degree
unfoldable pub next_place : ℕ → Place → Place
next_place v p = cond (leb v p.0) (p.0 - v, p.1 + 1, p.2) (p.2 + 1, 0, p.2 + 1)

-- the monomial after k steps
unfoldable pub walked : ℕ → ℕ → Place
walked v zero = (0, 0, 0)
walked v (suc k) = next_place v (walked v k)
