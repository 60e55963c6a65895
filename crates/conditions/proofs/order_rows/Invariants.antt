use Rattle.std.proofs.Common.{◌≡◌}
use Rattle.std.proofs.lemmas.List.Edits.{sets}
use Rattle.conditions.specs.MaskedRows.{kept_order}
use Rattle.conditions.proofs.order_rows.Given as goal

-- The rows of the orders below t by y stand from `at` on.
abbrev pub invariant-loop-t : goal.invariant-loop-t
invariant-loop-t l = l.rows ≡ sets l.initial.rows l.at (kept_order l.blocks l.row l.ys l.b l.t)
