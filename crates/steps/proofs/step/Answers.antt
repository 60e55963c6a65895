-- The best entry is raised: the leader of its column is looked for again, and the others still lead.
use Rattle.std.proofs.Common.{ℕ, ◌/◌, arith}
use Rattle.alphabet.proofs.Sizes.{sized}
use Rattle.alphabet.specs.Codes.{code_on}
use Rattle.plans.proofs.Leads.{led_again}
use Rattle.steps.proofs.Stepping.{column_of_lem}
use Rattle.steps.proofs.step.Goals as goal

pub returns-clause-led : goal.returns-clause-led
returns-clause-led c =
    let C = code_on c.args.alphabet in
    let place : ℕ = c.best-b.result in
    let z = sized c.args.alphabet in
    let weights = c.requires.0.weights in
    let full = weights.full in
    let small = weights.small in
    let column = column_of_lem C c.symbols.result c.args.n place c.symbols.ensures (omega arith) (omega arith) in
    led_again C _ _ _ c.args.n (place / c.symbols.result) place _ _ c.requires.2 column.1 column.2 (omega arith) c.best_of_column.ensures
