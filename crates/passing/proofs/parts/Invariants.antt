-- The loop walks along the monomials in their order, and each round adds one coefficient's multiple to
-- the row of its power of y.
use Rattle.std.proofs.Common.{◌≡◌, ◌≤◌}
use Rattle.alphabet.specs.Codes.{code_on}
use Rattle.monomials.specs.Walk.{walked}
use Rattle.passing.proofs.Gathered.{PartsTo}
use Rattle.passing.proofs.parts.Given as goal

-- x, y and degree are where the walk stands after so many steps as coefficients were met, and none is
-- above that number. The rows hold what those coefficients give.
abbrev pub invariant-loop-coefficient : goal.invariant-loop-coefficient
invariant-loop-coefficient l =
    let k = l.coefficient-index in
    let w = walked l.v k in
    ((l.x ≡ w.0) × (l.y ≡ w.1) × (l.degree ≡ w.2)) × ((l.x ≤ k) × (l.y ≤ k) × (l.degree ≤ k)) × PartsTo (code_on l.alphabet) l.v l.px l.coefficients k l.rows
