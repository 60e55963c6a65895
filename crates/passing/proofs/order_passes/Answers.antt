-- The library asks for each order in turn, and stops at the first whose derivative is not zero.
use Rattle.std.proofs.Common.{ℕ, Bool, eqb, refl, rules}
use borrow.Author.Tests.{tests}
use Rattle.alphabet.specs.Codes.{code_on}
use Rattle.passing.proofs.Ranged.{all_ranged}
use Rattle.passing.specs.Derivatives.{derivative_sum}
use Rattle.passing.proofs.order_passes.Goals as goal

-- What is asked of an order is whether its derivative is zero.
pub returns : goal.returns
returns c =
    let a = c.args in
    let asked : ℕ → Bool = λ t. eqb (derivative_sum (code_on a.alphabet) a.rows.now a.py.now a.h a.s t) 0 in
    all_ranged asked a.orders refl c.all.ensures.ran (λ x b q k. (search rules, search (rules, tests)))
