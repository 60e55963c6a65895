-- Of 0 each the product is 0. Else a remainder rules the product out; with none the quotient decides.
use Rattle.std.proofs.Common.{◌%◌, ◌∙◌, arith}
use borrow.Author.Tests.{ne_eqb}
use Rattle.refusals.proofs.Tests.{other_product}
use Rattle.refusals.proofs.is_product.Goals as goal

-- The division leaves a remainder, so the number is no multiple of `each`.
pub returns-else-given-each-eq0 : goal.returns-else-given-each-eq0
returns-else-given-each-eq0 c =
    let a = c.args in
    ne_eqb (a.given % a.each) 0 c.if-given-each-eq0.false ∙ other_product a.given a.each a.many (omega arith) c.if-given-each-eq0.false
