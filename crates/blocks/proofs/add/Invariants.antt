use Rattle.std.proofs.Common.{ℕ, ◌-◌, get_or}
use Rattle.definitions.specs.Field.{sum_of}
use Rattle.blocks.specs.Row.{Changed}
use Rattle.blocks.proofs.add.Given as goal

-- The first i entries from `at` on have the block's added, and all others are as they were.
abbrev pub invariant-loop-i : goal.invariant-loop-i
invariant-loop-i l = Changed l.at l.i (λ (k : ℕ). sum_of (get_or l.initial.row k 0) (get_or l.part (k - l.at) 0)) l.initial.row l.row
