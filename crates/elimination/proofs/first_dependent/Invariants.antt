-- The inner loop looks from row j down for a row that is not zero in column j, and the outer one
-- makes it the pivot of that column; where there is none, column j depends on those before it.
use Rattle.std.proofs.Common.{◌≤◌, ◌-◌, ◌*◌}
use Rattle.alphabet.specs.Codes.{code_on}
use Rattle.blocks.specs.Row.{block}
use Rattle.elimination.specs.Solving.{NoPivot}
use Rattle.pivots.specs.System.{Eliminated}
use Rattle.elimination.proofs.first_dependent.Given as goal

-- The columns before j have their pivots, and the rows have the solutions that they had at the entry.
abbrev pub invariant-search : goal.invariant-search
invariant-search l = (l.j ≤ l.rows) × Eliminated (code_on l.alphabet) l.rows (l.blocks * block) l.j l.initial.system l.system

abbrev pub decreases-search : goal.decreases-search
decreases-search l = l.rows - l.j

-- The rows from j up to r have 0 in column j.
abbrev pub invariant-down : goal.invariant-down
invariant-down l = (l.j ≤ l.r) × (l.r ≤ l.rows) × NoPivot l.j l.r l.system

abbrev pub decreases-down : goal.decreases-down
decreases-down l = l.rows - l.r
