-- Each entry is what one call of the closure answers, the sum of both entries at its place.
use Rattle.std.proofs.Common.{ℕ, get_or, rules}
use Rattle.definitions.specs.Field.{sum_of}
use Rattle.blocks.proofs.Calls.{front_called}
use Rattle.blocks.proofs.summed.Goals as goal

pub returns : goal.returns
unfolding sum_of
returns c =
    let sum = λ (k : ℕ). sum_of (get_or c.args.a.now k 0) (get_or c.args.b.now k 0) in
    front_called _ _ sum _ _ c.from_fn.ensures.items (λ k y t h called. (search rules, search rules))
