-- The stored cost is that of the bytes. Where it is within the limit the entries are taken in columns, and the polynomial of the columns is
-- that of the bytes.
use Rattle.std.proofs.Common.{◌≤◌, ◌*◌, ◌-◌, take, length-take-le, arith, ap, ◌∙◌}
use Rattle.std.proofs.lemmas.Bool.Decides.{nat_tests}
use Rattle.alphabet.specs.Codes.{code_on}
use Rattle.definitions.proofs.Bound.{bound_le}
use Rattle.definitions.specs.Bound.{bound}
use Rattle.interpolation.proofs.Answers.{found_is_answered}
use Rattle.matrix.proofs.Columns.{columns_front, columns_cost}
use Rattle.polynomial.proofs.Coefficients.{count_small}
use Rattle.interpolation.proofs.inside.interpolate_priced.Goals as goal

-- The cost is at most the limit, and its bound at most the cost.
pub count-count-requires : goal.count-count-requires
count-count-requires c =
    let a = c.args in
    let s = c.requires.fit.sized in
    let low = c.requires.fit.low in
    let cheap : a.cost ≤ a.limit = grind (arith, nat_tests, c.in_ok-refuse_if.ensures) in
    let le = bound_le (a.k - 1) (omega arith) a.cost in
    (omega arith, omega (arith, c.bound-bound.ensures))

-- The stored cost is that of the columns.
pub polynomial-requires : goal.polynomial-requires
polynomial-requires c =
    let a = c.args in
    let v = a.k - 1 in
    let f = c.requires.fit in
    let s = f.sized in
    let low = f.low in
    let cheap : a.cost ≤ a.limit = grind (arith, nat_tests, c.in_ok-refuse_if.ensures) in
    let paid = columns_cost (code_on a.alphabet) a.n a.cost a.entries.now s.2 c.requires.front_costs c.in_columns-columns.result c.in_columns-columns.ensures in
    let few = count_small v c.bound-bound.result c.count-count.result a.cost (omega arith) (omega arith) c.bound-bound.ensures c.count-count.ensures in
    let space = f.spacious in
    record {
      weighted = omega arith;
      cheap = omega arith;
      priced = paid;
      bounded = c.bound-bound.ensures ∙ ap (bound v) paid;
      counted = c.count-count.ensures;
      room = omega arith;
    }

-- The polynomial of the columns is written into out, and the columns hold the entries of the bytes.
pub returns : goal.returns
returns c =
    let a = c.args in
    let C = code_on a.alphabet in
    let small = c.requires.fit.sized.2 in
    let h = c.requires.front_costs in
    let columns = c.in_columns-columns in
    let cheap : a.cost ≤ a.limit = grind (arith, nat_tests, c.in_ok-refuse_if.ensures) in
    found_is_answered C a.n a.k a.limit (take (C.symbols * a.n) a.entries.now) a.out.now small (length-take-le (C.symbols * a.n) a.entries.now h.within)
    columns.result (columns_front C a.n a.cost a.entries.now small h columns.result columns.ensures) a.cost c.bound-bound.result
    c.count-count.result c.polynomial.result c.polynomial.new.out h.paid cheap c.bound-bound.ensures
    c.count-count.ensures c.polynomial.ensures
