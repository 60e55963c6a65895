-- The kit finds the fewest digits that hold the number: they are the page's decimal text.
use Rattle.std.proofs.Common.{ℕ, List, ◌∙◌, subst}
use Rattle.text.proofs.Decimal.{decimal_is}
use Rattle.text.specs.Text.{Puts}
use Rattle.text.proofs.put_decimal.Goals as goal

-- The digits that were found are put.
pub returns-clause-text : goal.returns-clause-text
returns-clause-text c =
    let a = c.args in
    let digits = c.decimal-count in
    let text = digits.ensures.digits ∙ decimal_is a.x digits.result digits.ensures.len in
    subst (λ (words : List ℕ). Puts a.out.now a.at words c.put.result c.put.new.out) text c.put.ensures
