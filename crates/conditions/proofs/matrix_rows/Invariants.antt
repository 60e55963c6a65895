use Rattle.std.proofs.Common.{◌≡◌, ◌+◌}
use Rattle.alphabet.specs.Codes.{code_on}
use Rattle.blocks.specs.Row.{ZeroFrom}
use Rattle.conditions.proofs.Placed.{Joining}
use Rattle.conditions.specs.MaskedRows.{column_at}
use Rattle.definitions.specs.Code.{point}
use Rattle.conditions.proofs.matrix_rows.Given as goal

-- The rows of the positions before this one stand in front, next is the place after them, and a is the point of this one;
-- px is a row that may be filled with its powers.
abbrev pub invariant-loop-column : goal.invariant-loop-column
invariant-loop-column l =
    Joining (column_at (code_on l.alphabet) l.v l.d l.blocks l.matrix) l.initial.rows 0 l.column-index l.next l.rows
    × (l.a ≡ point (code_on l.alphabet) l.column-index) × ZeroFrom (l.d + 1) l.px
