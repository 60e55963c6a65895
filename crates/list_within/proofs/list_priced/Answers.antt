-- The stored cost is that of the bytes. Where it is within the limit the columns are those of the bytes, and so is their list.
use Rattle.std.proofs.Common.{false, ◌≡◌, ℕ, ◌*◌, List, length, take, length-take-le, arith}
use borrow.Author.Tests.{ltb-false}
use Rattle.alphabet.specs.Codes.{code_on}
use Rattle.definitions.specs.Field.{Code}
use Rattle.definitions.proofs.Table.{next, end}
use Rattle.definitions.specs.Refusals.{cost_within}
use Rattle.list_within.proofs.Answers.{listed}
use Rattle.matrix.proofs.Columns.{columns_front, columns_cost}
use Rattle.matrix.specs.Columns.{FrontCosts}
use Rattle.list_within.proofs.list_priced.Goals as goal

-- the bytes in front of the entries have their length
full : (C : Code) (n price : ℕ) (entries : List ℕ) → FrontCosts C n price entries → length (take (C.symbols * n) entries) ≡ C.symbols * n
full C n price entries f = length-take-le (C.symbols * n) entries f.within

pub list_of_columns-requires-clause-le_k : goal.list_of_columns-requires-clause-le_k
list_of_columns-requires-clause-le_k c =
    let a = c.args in
    let f = c.requires.fit in
    let z = f.sized in
    let low = f.low in
    let costs = columns_cost (code_on a.alphabet) a.n a.cost a.entries.now z.2 c.requires.front_costs c.in_columns-columns.result c.in_columns-columns.ensures in
    (z.0, z.1, z.2, costs, omega (arith, ltb-false a.limit a.cost c.in_ok-refuse_if.ensures))

-- the columns are those of the bytes
pub list_of_columns-requires-clause-loaded : goal.list_of_columns-requires-clause-loaded
list_of_columns-requires-clause-loaded c =
    let a = c.args in
    let C = code_on a.alphabet in
    let f = c.requires.front_costs in
    let columns = c.in_columns-columns in
    let loaded = columns_front C a.n a.cost a.entries.now c.requires.fit.sized.2 f columns.result columns.ensures in
    (take (C.symbols * a.n) a.entries.now, full C a.n a.cost a.entries.now f, loaded)

-- The cost is within the limit, and the list of the columns is that of the bytes.
pub returns : goal.returns
returns c =
    let a = c.args in
    let C = code_on a.alphabet in
    let f = c.requires.front_costs in
    let m = take (C.symbols * a.n) a.entries.now in
    let loaded = columns_front C a.n a.cost a.entries.now c.requires.fit.sized.2 f c.in_columns-columns.result c.in_columns-columns.ensures in
    let within : (cost_within a.limit m).given ≡ false = rw f.paid at c.in_ok-refuse_if.ensures in
    listed C a.n a.k m a.rows.now a.scores.now (next {l = cost_within a.limit m} within end) c.list_of_columns.result _ _
    (c.list_of_columns.ensures m (full C a.n a.cost a.entries.now f) loaded)
