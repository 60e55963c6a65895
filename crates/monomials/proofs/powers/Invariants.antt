use Rattle.std.proofs.Common.{◌≡◌}
use Rattle.alphabet.specs.Codes.{code_on}
use Rattle.blocks.specs.Row.{Front}
use Rattle.definitions.specs.Field.{numbers, power}
use Rattle.monomials.proofs.powers.Given as goal

-- The entries before this one are the powers of x, and next is the power for this one.
abbrev pub invariant-loop-entry : goal.invariant-loop-entry
invariant-loop-entry l = (l.next ≡ power (numbers (code_on l.alphabet)) l.x l.entry-index) × Front l.entry-index (power (numbers (code_on l.alphabet)) l.x) l.entry-items
