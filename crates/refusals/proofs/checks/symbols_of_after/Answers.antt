-- A list with no number above the greatest symbol has symbols only.
use Rattle.std.proofs.Common.{arith}
use Rattle.alphabet.proofs.Sizes.{sized}
use Rattle.definitions.proofs.Table.{above_means}
use Rattle.definitions.specs.Refusals.{runs_on, none_above}
use Rattle.refusals.proofs.Tried.{on_ok}
use Rattle.refusals.proofs.checks.symbols_of_after.Goals as goal

-- Where the line is passed, every number is below the number of symbols.
pub returns-clause-symbols : goal.returns-clause-symbols
returns-clause-symbols c =
    let greatest = c.greatest_symbol.result in
    let l = c.args.list.now in
    on_ok (runs_on c.args.earlier (none_above greatest l)) c.symbols_after.result c.symbols_after.ensures
    (λ e j.
    let low = above_means greatest l e j in
    let some = (sized c.args.alphabet).least in
    omega (arith, c.greatest_symbol.ensures))
