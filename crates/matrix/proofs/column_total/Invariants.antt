use Rattle.std.proofs.Common.{◌≡◌, ◌*◌, ◌≤◌, take}
use Rattle.std.specs.List.{sum_by}
use Rattle.matrix.proofs.column_total.Given as goal

-- The total is that of the column's bytes so far, each at most 255.
abbrev pub invariant-loop-x : goal.invariant-loop-x
invariant-loop-x l = (l.total ≡ sum_by (λ x. x) (take l.x-index l.x-items)) × (l.total ≤ 255 * l.x-index)
