-- Each round tests the points of one position more, of the rows of its x, and goes from each x to the
-- next by one product.
use Rattle.std.proofs.Common.{◌≡◌, true}
use Rattle.alphabet.specs.Codes.{code_on}
use Rattle.definitions.specs.Code.{point}
use Rattle.definitions.specs.Proposals.{passes}
use Rattle.passing.proofs.passes.Given as goal

-- The positions before i pass, and x is the point of position i.
abbrev pub invariant-loop-i : goal.invariant-loop-i
invariant-loop-i l = (l.x ≡ point (code_on l.alphabet) l.i) × (passes (code_on l.alphabet) l.i l.v l.degree l.entries l.coefficients ≡ true)
