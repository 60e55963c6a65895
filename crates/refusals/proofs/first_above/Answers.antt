-- The library's search stops at the first number above the greatest.
use Rattle.std.proofs.Common.{rules, tests, ltb}
use Rattle.std.proofs.lemmas.Iterator.{YieldsList-from_slice}
use Rattle.std.proofs.lemmas.Iterator.Search.{position_from_yields_List}
use Rattle.refusals.proofs.First.{found_above}
use Rattle.refusals.proofs.first_above.Goals as goal

-- What it answers is the first place, where there is one.
pub returns : goal.returns
returns c =
    found_above c.args.greatest c.args.list.now c.position.result
    (position_from_yields_List (ltb c.args.greatest) _ _ _ c.position.ensures.ran (YieldsList-from_slice c.args.list.now cc) (λ x b q k. search (rules, tests)))
