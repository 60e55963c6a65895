-- The room is compared with the product by division.
use Rattle.std.proofs.Common.{Bool, subst}
use Rattle.definitions.specs.Refusals.{line}
use Rattle.refusals.proofs.Tests.{short_product}
use Rattle.refusals.specs.Tries.{Tries}
use Rattle.refusals.proofs.checks.room.Goals as goal

-- The test by division is the line's test.
pub returns : goal.returns
returns c =
    let a = c.args in
    subst (λ (b : Bool). Tries (line 4 b) c.refuse_if.result) (short_product a.given a.each a.many c.requires) c.refuse_if.ensures
