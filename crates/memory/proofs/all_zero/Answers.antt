-- The call of `all` tests each entry, and a list is zero where each of its entries is.
use Rattle.std.proofs.Common.{rules, nat_eq, ◌∙◌}
use Rattle.std.proofs.lemmas.Iterator.{YieldsList-from_slice}
use Rattle.std.proofs.lemmas.Iterator.Search.{all_from_yields_List}
use Rattle.memory.proofs.Zero.{is_zero_all}
use Rattle.memory.proofs.all_zero.Goals as goal

pub returns : goal.returns
returns c =
    let list = c.args.list.now in
    all_from_yields_List (λ x. nat_eq x 0) _ _ _ c.all.ensures.ran (YieldsList-from_slice list cc) (λ x b q k. search rules) ∙ is_zero_all list
