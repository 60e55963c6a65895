-- x y + g for y is y + g for y, in place, and then x y for y: one law joins the two promises.
use Rattle.alphabet.specs.Codes.{code_on}
use Rattle.instances.proofs.Codes.{field_on}
use Rattle.substitution.proofs.Substitution.{spread_shifted}
use Rattle.substitution.proofs.substituted.Goals as goal

-- Shifted columns, spread, are the substitution.
pub returns-clause-polynomial : goal.returns-clause-polynomial
returns-clause-polynomial c =
    let a = c.args in
    spread_shifted (code_on a.alphabet) (field_on a.alphabet) a.h a.w a.g a.p c.shift.new.p c.spread.result c.requires.h_le_places.1
    c.requires.symbols_2 c.shift.ensures.shifted c.spread.ensures.spread
