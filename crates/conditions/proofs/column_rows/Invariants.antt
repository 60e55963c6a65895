use Rattle.alphabet.specs.Codes.{code_on}
use Rattle.conditions.proofs.Placed.{Joining}
use Rattle.conditions.specs.MaskedRows.{point_at}
use Rattle.conditions.proofs.column_rows.Given as goal

-- The rows of the symbols below b stand from `at` on, and next is the place after them.
abbrev pub invariant-loop-b : goal.invariant-loop-b
invariant-loop-b l = Joining (point_at (code_on l.alphabet) l.px l.n l.blocks l.es l.column) l.initial.rows l.at l.b l.next l.rows
