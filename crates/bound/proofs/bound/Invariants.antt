use Rattle.std.proofs.Common.{◌+◌, ◌-◌, ◌*◌, ◌≤◌}
use Rattle.bound.proofs.bound.Given as goal

-- The number m is at least 1, at most one above the cost, and m (m - 1) is at most the quotient.
abbrev pub invariant-loop-m : goal.invariant-loop-m
invariant-loop-m l = (1 ≤ l.m) × (l.m ≤ l.cost + 1) × (l.m * (l.m - 1) ≤ l.most)

-- each number that is passed leaves fewer up to one above the cost
abbrev pub decreases-loop-m : goal.decreases-loop-m
decreases-loop-m l = l.cost + 1 - l.m
