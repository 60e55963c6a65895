-- The table's rule says what stands at the place of a and b.
use Rattle.std.proofs.Common.{ℕ, ◌+◌, ◌*◌, get_or, ap, ap₂, ◌∙◌}
use Rattle.alphabet.specs.Codes.{code_on}
use Rattle.tables.specs.Table.{Products}
use Rattle.tables.proofs.look.Goals as goal

-- The place that was read is a times the number of symbols, plus b.
pub returns : goal.returns
unfolding Products
returns c =
    let a = c.args in
    let table = c.products.result.now in
    ap₂ (λ (x q : ℕ). get_or table (x * q + c.from-2.result) 0) c.from.ensures c.symbols.ensures
    ∙ ap (λ (y : ℕ). get_or table (a.a * (code_on a.alphabet).symbols + y) 0) c.from-2.ensures
    ∙ c.products.ensures.rule a.a a.b c.requires.0 c.requires.1
