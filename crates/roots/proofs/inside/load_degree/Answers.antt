-- One law of Loading adds the coefficient of a round, and one says that the last round ends the degree.
use Rattle.std.proofs.Common.{arith}
use Rattle.alphabet.specs.Codes.{code_on}
use Rattle.roots.proofs.Loading.{degree_none, degree_more, degree_last}
use Rattle.roots.proofs.inside.load_degree.Goals as goal

-- no coefficient is at its place yet
pub loop-b-init : goal.loop-b-init
loop-b-init c w = let a = c.args in degree_none (code_on w) a.h a.v a.d a.j a.coefficients.now a.p.now

-- the coefficient of x^(d - v b) y^b goes to its place
pub loop-b-preserved : goal.loop-b-preserved
loop-b-preserved c w =
    let l = c.loop-b in
    let a = c.args in
    degree_more (code_on w) a.h a.v a.d a.j l.b a.coefficients.now a.p.now l.p (omega arith) (l.invariant w)

-- The round is that of b = d / v, the last.
pub returns-2 : goal.returns-2
returns-2 c w =
    let l = c.loop-b in
    let a = c.args in
    degree_last (code_on w) a.h a.v a.d a.j l.b a.coefficients.now a.p.now l.p (omega arith) (l.invariant w) (omega arith)
