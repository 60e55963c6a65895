-- The bound of a cost within the limit is within it too, and the room holds its coefficients: so
-- the polynomial is found at the bound.
use Rattle.std.proofs.Common.{arith, ap, ◌∙◌}
use Rattle.definitions.proofs.Powers.{bound_fits}
use Rattle.definitions.specs.Bound.{bound}
use Rattle.polynomial.proofs.Coefficients.{count_small}
use Rattle.polynomial.proofs.at_bound.Goals as goal

pub count-count-requires : goal.count-count-requires
count-count-requires c =
    let z = c.requires in
    let low = bound_fits c.args.v z.0 c.args.cost z.1 in
    let e = c.bound-bound.ensures in
    (z.0, omega arith)

pub polynomial-leading-requires : goal.polynomial-leading-requires
polynomial-leading-requires c =
    let b = c.bound-bound in
    let n = c.count-count in
    let z = c.requires in
    let few = count_small c.args.v b.result n.result c.args.cost z.0 z.1 b.ensures n.ensures in
    let room = z.3 in
    record {
      weighted = z.0;
      cheap = z.1;
      priced = z.2;
      bounded = b.ensures ∙ ap (bound c.args.v) z.2;
      counted = n.ensures;
      room = omega arith;
    }
