-- An operand that passes both checks is a symbol other than 0, and its inverse is the entry of the table at that number.
use Rattle.std.proofs.Common.{ℕ, true, Bool, ◌&&◌, [], get_or, arith, ap, ◌∙◌}
use borrow.Author.Tests.{eqb-false}
use Rattle.alphabet.proofs.Sizes.{sized}
use Rattle.definitions.specs.Answers.{refused, valued}
use Rattle.alphabet.specs.Codes.{code_on}
use Rattle.definitions.specs.Field.{inverse_of}
use Rattle.definitions.specs.Refusals.{inverse_table}
use Rattle.definitions.specs.Polynomial.{is_zero}
use Rattle.refusals.proofs.Chain.{Came, start, ◌▸◌, goes_on}
use Rattle.tables.specs.Table.{Inverses}
use Rattle.field.proofs.inverse.Goals as goal

-- The table has a place for each symbol.
pub bounds-inverses-from : goal.bounds-inverses-from
bounds-inverses-from c =
    let symbol = c.in_ok-symbols_of.ensures.symbols 0 in
    let most = (sized c.args.alphabet).most in
    omega (arith, c.from.ensures)

-- The table holds its inverse, and no line of the page's table fails.
pub returns : goal.returns
unfolding is_zero Inverses
returns c =
    let C = code_on c.args.alphabet in
    let a = c.args.a in
    let nonzero = c.in_ok-refuse_if.ensures in
    let came : Came (inverse_table C a) [] = start ▸ c.in_ok-symbols_of.ensures.tried ▸ ap (λ (b : Bool). b && true) nonzero in
    ap (λ (x : ℕ). valued (get_or c.inverses.result.now x 0)) c.from.ensures
    ∙ ap valued (c.inverses.ensures a (c.in_ok-symbols_of.ensures.symbols 0) (eqb-false a 0 nonzero))
    ∙ goes_on refused (valued (inverse_of C a)) came
