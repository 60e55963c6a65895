-- No order is asked for by the multiplicity 0; else the orders by y are tested for each order by x, of
-- the rows of the powers of y.
use Rattle.std.proofs.Common.{ℕ, ◌-◌, Bool, ◌≡◌, ◌∙◌, sym, ap, refl, arith, rules}
use borrow.Author.Tests.{tests}
use Rattle.alphabet.specs.Codes.{code_on}
use Rattle.definitions.proofs.Every.{every_none, every_same}
use Rattle.definitions.specs.Tools.{every}
use Rattle.passing.proofs.Ranged.{all_ranged}
use Rattle.passing.proofs.Tests.{order_test, order_agrees}
use Rattle.passing.specs.Derivatives.{order_passes}
use Rattle.passing.proofs.point_passes.Goals as goal

pub returns-then-m-eq0 : goal.returns-then-m-eq0
returns-then-m-eq0 c =
    let a = c.args in
    let test = order_test (code_on a.alphabet) a.rows.now a.h a.y a.m in
    let none : a.m ≡ 0 = omega arith in
    sym (ap (λ (n : ℕ). every n test) none ∙ every_none test)

-- What the rows of y answer is what its derivatives do.
pub returns : goal.returns
returns c =
    let a = c.args in
    let C = code_on a.alphabet in
    let py = c.powers-py.result in
    let asked : ℕ → Bool = λ s. order_passes C a.rows.now py a.h s (a.m - s) in
    all_ranged asked a.m refl c.all.ensures.ran (λ x b q k. (search rules, search (rules, tests)))
    ∙ every_same asked (order_test C a.rows.now a.h a.y a.m) a.m (λ s l. order_agrees C a.rows.now py a.h a.y a.m s c.powers-py.ensures (omega arith))
