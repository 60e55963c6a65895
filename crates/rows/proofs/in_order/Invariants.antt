use Rattle.std.proofs.Common.{◌≡◌, ℕ, ◌+◌, ◌<◌, true}
use Rattle.rows.specs.Rows.{row_before}
use Rattle.rows.proofs.in_order.Given as goal

-- Each row before row j - 1 comes before the next.
abbrev pub invariant-loop-j : goal.invariant-loop-j
invariant-loop-j l = (i : ℕ) → i + 1 < l.j → row_before l.k l.rows l.scores i (i + 1) ≡ true
