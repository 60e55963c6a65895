-- The lines of the table say what the bound asks for.
use Rattle.std.proofs.Common.{rules, arith}
use Rattle.alphabet.specs.Codes.{code_on}
use Rattle.definitions.proofs.Table.{sizes_mean, entries_mean}
use Rattle.turning.proofs.Turned.{bytes_within}
use Rattle.weights.proofs.Weighing.{cost_fits}
use Rattle.weights.proofs.cost_and_bound.Goals as goal

-- The line of the entries refuses what is above the greatest one, and nothing else.
pub returns-in_err-symbols : goal.returns-in_err-symbols
returns-in_err-symbols c = search rules

-- The cost of the record is that of the bytes.
pub bound-bound-requires : goal.bound-bound-requires
bound-bound-requires c =
    let a = c.args in
    let C = code_on a.alphabet in
    let m = a.matrix.now in
    let sized = sizes_mean C a.n a.k c.in_ok-sizes.ensures in
    let full = entries_mean _ m c.in_ok-entries.ensures in
    let low = cost_fits a.alphabet m (bytes_within C a.n m sized.2 full) c.in_ok-symbols.ensures in
    let paid = c.turn-cost.ensures.paid in
    (omega arith, omega arith)
