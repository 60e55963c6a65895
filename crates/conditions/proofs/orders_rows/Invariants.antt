use Rattle.std.proofs.Common.{◌*◌}
use Rattle.blocks.specs.Row.{block, ZeroFrom}
use Rattle.conditions.proofs.Placed.{Joining}
use Rattle.conditions.specs.MaskedRows.{order_at}
use Rattle.conditions.proofs.orders_rows.Given as goal

-- The rows of the orders below s by x stand from `at` on, next is the place after them, and part is a row that may be filled.
abbrev pub invariant-loop-s : goal.invariant-loop-s
invariant-loop-s l = Joining (order_at l.blocks l.row l.es l.b l.m) l.initial.rows l.at l.s l.next l.rows × ZeroFrom (l.blocks * block) l.part
