-- The library asks for each symbol in turn, and stops at the first whose point is not passed.
use Rattle.std.proofs.Common.{ℕ, ◌+◌, Bool, ◌∙◌, ap, refl, rules, get_or}
use borrow.Author.Tests.{tests}
use Rattle.alphabet.specs.Codes.{code_on}
use Rattle.definitions.specs.Tools.{every}
use Rattle.passing.proofs.Ranged.{all_ranged}
use Rattle.passing.specs.Derivatives.{point_passes}
use Rattle.passing.proofs.column_passes.Goals as goal

-- What is asked of a symbol is whether its point passes, with its entry as the multiplicity.
pub returns : goal.returns
returns c =
    let a = c.args in
    let asked : ℕ → Bool = λ b. point_passes (code_on a.alphabet) a.rows.now a.h b (get_or a.entries.now (a.at + b) 0) in
    all_ranged asked c.symbols.result refl c.all.ensures.ran (λ x b q k. (search rules, search (rules, tests))) ∙ ap (λ n. every n asked) c.symbols.ensures
