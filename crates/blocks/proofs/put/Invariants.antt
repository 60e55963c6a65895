use Rattle.std.proofs.Common.{ℕ, ◌-◌, get_or}
use Rattle.blocks.specs.Row.{Changed}
use Rattle.blocks.proofs.put.Given as goal

-- The first i entries from `at` on are the block's, and all others are as they were.
abbrev pub invariant-loop-i : goal.invariant-loop-i
invariant-loop-i l = Changed l.at l.i (λ (k : ℕ). get_or l.part (k - l.at) 0) l.initial.row l.row
