-- The closure tests one column's constant, and the range goes over all columns.
use Rattle.std.proofs.Common.{rules, ℕ, ◌*◌, get_or, refl, ◌∙◌}
use Rattle.std.proofs.lemmas.Iterator.{YieldsList-from_range}
use Rattle.std.proofs.lemmas.Iterator.Search.{all_from_yields_List}
use borrow.Author.Tests.{tests}
use lib.Dec.{eqb}
use native.Mathlib.Nat.{sub-zero}
use Rattle.alphabet.specs.Codes.{code_on}
use Rattle.substitution.proofs.Constants.{constants_tested}
use Rattle.substitution.proofs.constants_zero.Goals as goal

-- The answer is the test of all numbers below w, and one law makes it that of all columns, whichever
-- alphabet they are of.
pub returns : goal.returns
returns c w =
    let p = c.args.p.now in
    let h = c.args.h in
    let columns = YieldsList-from_range 0 _ _ refl (sub-zero c.args.w) in
    all_from_yields_List (λ (a : ℕ). eqb (get_or p (a * h) 0) 0) _ _ _ c.all.ensures.ran columns (λ x b q k. search (rules, tests))
    ∙ constants_tested (code_on w) h c.args.w p c.requires.0
