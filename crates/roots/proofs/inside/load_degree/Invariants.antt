-- The loop goes over the powers of y.
use Rattle.std.proofs.Common.{take, drop}
use Rattle.roots.specs.Rows.{LoadedOfEither}
use Rattle.roots.proofs.Loading.{some}
use Rattle.roots.proofs.inside.load_degree.Given as goal

-- Before round b the first b coefficients of the degree are at their places.
abbrev pub invariant-loop-b : goal.invariant-loop-b
invariant-loop-b l = LoadedOfEither l.h (take l.b (drop l.j l.coefficients)) (some l.v l.d l.b) l.initial.p l.p
