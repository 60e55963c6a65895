-- The polynomial interpolates and its degree limit is the bound, so its roots above the bound are all messages above the bound: that is
-- the list.
use Rattle.std.proofs.Common.{◌-◌, arith, ap, ◌∙◌}
use Rattle.alphabet.specs.Codes.{code_on}
use Rattle.definitions.specs.Bound.{bound}
use Rattle.instances.proofs.Codes.{field_on}
use Rattle.list_within.proofs.Found.{degree_small, bound_of_cost, interpolating, rooted}
use Rattle.list_within.proofs.Listing.{lists}
use Rattle.polynomial.proofs.Coefficients.{count_small}
use Rattle.list_within.proofs.list_of_columns.Goals as goal

-- The bound of a cost within the limit is small.
pub count-count-requires : goal.count-count-requires
count-count-requires c =
    let z = c.requires.le_k in
    let low = degree_small (c.args.k - 1) c.args.cost c.bound-bound.result (omega arith) z.4 c.bound-bound.ensures in
    (omega arith, omega arith)

-- The room holds the coefficients.
pub polynomial-requires : goal.polynomial-requires
polynomial-requires c =
    let z = c.requires.le_k in
    let v = c.args.k - 1 in
    let few = count_small v c.bound-bound.result c.count-count.result c.args.cost (omega arith) z.4 c.bound-bound.ensures c.count-count.ensures in
    record {
      weighted = omega arith;
      cheap = z.4;
      priced = z.3;
      bounded = c.bound-bound.ensures ∙ ap (bound v) z.3;
      counted = c.count-count.ensures;
      room = few;
    }

pub roots_above-requires-clause-rooted : goal.roots_above-requires-clause-rooted
roots_above-requires-clause-rooted c =
    let a = c.args in
    let z = c.requires.le_k in
    rooted a.n a.k c.polynomial.ensures c.count-count.ensures z.2 z.0 z.1 a.cost z.4 c.bound-bound.ensures c.requires.loaded

-- The roots above the bound are listed, and these are all messages above the bound of the bytes.
pub returns : goal.returns
returns c m size loaded =
    let a = c.args in
    let z = c.requires.le_k in
    let C = code_on a.alphabet in
    let D = c.bound-bound.result in
    let through = (interpolating a.n a.k c.polynomial.ensures c.count-count.ensures z.2 m size loaded).through in
    let is_rooted = rooted a.n a.k c.polynomial.ensures c.count-count.ensures z.2 z.0 z.1 a.cost z.4 c.bound-bound.ensures c.requires.loaded in
    lists C (field_on a.alphabet) a.n a.k D D _ is_rooted m size through (omega arith) _
    (bound_of_cost C a.n (a.k - 1) a.cost D a.matrix.now m z.2 c.bound-bound.ensures z.3 size loaded) (c.roots_above.ensures m size loaded)
