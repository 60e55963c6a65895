-- Each round adds one product more, of c and an entry of the other row.
use Rattle.passing.proofs.add_multiple.Given as goal
use Rattle.alphabet.specs.Codes.{code_on}
use Rattle.blocks.specs.Row.{Changed}
use Rattle.std.proofs.Common.{get_or, ℕ}

-- The first s entries have their products, the others stand as they stood.
abbrev pub invariant-loop-s : goal.invariant-loop-s
invariant-loop-s l =
    Changed 0 l.s (λ (k : ℕ). (code_on l.alphabet).plus (get_or l.initial.row k 0) ((code_on l.alphabet).times (get_or l.of k 0) l.c)) l.initial.row l.row
