use Rattle.std.proofs.Common.{◌≡◌, ℕ, ◌+◌, ◌++◌, map, get_or, drop}
use Rattle.definitions.specs.Tools.{below}
use Rattle.edits.proofs.add_entries.Given as goal

-- The first j entries are the sums, and behind them the entries are as they were.
abbrev pub invariant-loop-j : goal.invariant-loop-j
invariant-loop-j l = l.entries ≡ map (λ (t : ℕ). get_or l.initial.entries t 0 + get_or l.others t 0) (below l.j) ++ drop l.j l.initial.entries
