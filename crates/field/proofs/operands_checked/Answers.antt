-- A list of symbols has symbols at its two places.
use Rattle.std.proofs.Common.{[], ◌∷◌, ◌<◌, arith}
use Rattle.alphabet.proofs.Sizes.{sized}
use Rattle.alphabet.specs.Codes.{code_on}
use Rattle.definitions.proofs.Table.{symbols_mean}
use Rattle.definitions.specs.Refusals.{symbols}
use Rattle.refusals.proofs.Tried.{on_ok}
use Rattle.field.proofs.operands_checked.Goals as goal

-- It is the line of both.
pub returns-clause-tried : goal.returns-clause-tried
returns-clause-tried c = c.symbols_of.ensures.tried

-- Where the line is passed, so are both operands.
pub returns-clause-symbols : goal.returns-clause-symbols
returns-clause-symbols c =
    let a = c.args in
    let C = code_on a.alphabet in
    let some : 0 < C.symbols = let least = (sized a.alphabet).least in omega arith in
    on_ok (symbols C (a.a ∷ a.b ∷ [])) c.symbols_of.result c.symbols_of.ensures.tried
    (λ e. let both = symbols_mean C some (a.a ∷ a.b ∷ []) e in (both 0, both 1))
