use Rattle.std.proofs.Common.{ℕ, ◌+◌, ◌≤◌, ◌<◌, get_or}
use Rattle.definitions.specs.Limits.{greatest_level}
use Rattle.edits.proofs.lowest_sum.Given as goal

-- No sum of the first j places is above 5.
abbrev pub invariant-loop-j : goal.invariant-loop-j
invariant-loop-j l = (t : ℕ) → t < l.j → get_or l.entries t 0 + get_or l.others t 0 ≤ greatest_level
