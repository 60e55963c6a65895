-- A list of m rows has m - 1 pairs of neighbours.
use Rattle.std.proofs.Common.{sym, ◌-◌, arith}
use Rattle.std.proofs.lemmas.Grind.{common_steps}
use Rattle.definitions.proofs.Every.{every_of, every_but}
use Rattle.rows.proofs.in_order.Goals as goal

-- Row j - 1 does not come before row j, so the list is not in order.
pub returns-then-not-row_before : goal.returns-then-not-row_before
returns-then-not-row_before c = sym (every_but _ _ (c.loop-j.j - 1) (omega arith) (grind (arith, common_steps)))

-- The loop has ended at the last row, or there is none: all rows are in order.
pub returns : goal.returns
returns c = sym (every_of _ _ (λ i h. c.loop-j.invariant i (omega arith)))
