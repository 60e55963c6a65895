-- Each round adds the product of two entries more.
use Rattle.std.proofs.Common.{◌≡◌, length}
use Rattle.alphabet.specs.Codes.{code_on}
use Rattle.passing.specs.Derivatives.{derivative_sum}
use Rattle.passing.proofs.derivative.Given as goal

-- The sum is that of the rows that were met.
abbrev pub invariant-loop-row : goal.invariant-loop-row
invariant-loop-row l = l.sum ≡ derivative_sum (code_on l.alphabet) l.rows l.py (length l.yielded) l.s l.t
