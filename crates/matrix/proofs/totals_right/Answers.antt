-- Each total is compared with its column's.
use Rattle.std.proofs.Common.{ℕ, Bool, nat_eq, get_or, rules, ap, ◌∙◌}
use Rattle.std.proofs.lemmas.Iterator.{YieldsList-from_slice}
use Rattle.std.proofs.lemmas.Iterator.Consumers.{YieldsList-from_enumerate}
use Rattle.std.proofs.lemmas.Iterator.Search.{all_from_yields_List}
use Rattle.alphabet.specs.Codes.{code_on}
use Rattle.definitions.specs.Tools.{every}
use Rattle.definitions.specs.Weights.{sum_of_column}
use Rattle.matrix.proofs.Chains.{all_entries}
use Rattle.matrix.proofs.totals_right.Goals as goal

pub returns : goal.returns
returns c =
    let totals = c.args.totals.now in
    let right : ℕ → ℕ → Bool = λ i total. nat_eq total (sum_of_column (code_on c.args.alphabet) c.args.entries.now i) in
    all_from_yields_List (λ (p : ℕ × ℕ). right p.0 p.1) _ _ _ c.all.ensures.ran (YieldsList-from_enumerate (YieldsList-from_slice totals cc) cc) (λ x b q k. search rules)
    ∙ all_entries right totals ∙ ap (λ (n : ℕ). every n (λ i. right i (get_or totals i 0))) c.requires.0
