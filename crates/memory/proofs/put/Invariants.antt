-- The loop lays one byte of the part after the other.
use Rattle.std.proofs.Common.{◌≡◌, length, take}
use Rattle.memory.specs.Laid.{laid}
use Rattle.memory.proofs.put.Given as goal

-- The first j bytes of the part lie from `at` on, and all else is kept.
abbrev pub invariant-loop-j : goal.invariant-loop-j
invariant-loop-j l = (length l.out ≡ length l.initial.out) × (l.out ≡ laid l.initial.out l.at (take l.j l.part))
