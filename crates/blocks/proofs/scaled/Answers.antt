-- Each entry is what one call of the closure answers, the product of u and the entry at its place.
use Rattle.std.proofs.Common.{ℕ, get_or, rules}
use Rattle.alphabet.specs.Codes.{code_on}
use Rattle.blocks.proofs.Calls.{front_called}
use Rattle.blocks.proofs.scaled.Goals as goal

pub returns : goal.returns
returns c =
    let product = λ (k : ℕ). (code_on c.args.alphabet).times c.args.u (get_or c.args.a.now k 0) in
    front_called _ _ product _ _ c.from_fn.ensures.items (λ k y t h called. (search rules, search rules))
