-- A level lays, symbol after symbol, the rows of what it hands on behind those before them.
use Rattle.std.proofs.Common.{◌≡◌, ◌+◌, ◌-◌, length, take}
use Rattle.alphabet.specs.Codes.{code_on}
use Rattle.memory.specs.Laid.{laid}
use Rattle.roots.proofs.Rows.{rows_before}
use Rattle.substitution.specs.Array.{polynomial}
use Rattle.roots.proofs.inside.+search.Given as goal

-- the levels left fall
abbrev pub decreases-search : goal.decreases-search
decreases-search l = l.left

-- Before symbol g the rows of all smaller symbols lie from `at` on, and `end` is the place after them.
abbrev pub invariant-loop-g : goal.invariant-loop-g
invariant-loop-g l =
    let C = code_on l.alphabet in
    let before = rows_before C (take (l.k - l.left) l.row) (l.left - 1) (polynomial C l.h (l.degree + 1) l.p) l.g in
    record {
      counted : l.end ≡ l.at + length before;
      written : l.out ≡ laid l.initial.out l.at before;
    }
