-- Each round makes the entry of one order more, and keeps the row's own entry of that order for the
-- next.
use Rattle.std.proofs.Common.{◌≡◌, ◌∷◌, length, get_or}
use Rattle.alphabet.specs.Codes.{code_on}
use Rattle.blocks.specs.Row.{Front}
use Rattle.definitions.specs.Limits.{greatest_level}
use Rattle.passing.specs.Derivatives.{moved_at}
use Rattle.passing.proofs.moved.Given as goal

-- The first s entries are made, and before is the row's entry of the order before s.
abbrev pub invariant-loop-s : goal.invariant-loop-s
invariant-loop-s l =
    (length l.next ≡ greatest_level) × (l.before ≡ get_or (0 ∷ l.row) l.s 0) × Front l.s (moved_at (code_on l.alphabet) l.c l.row) l.next
