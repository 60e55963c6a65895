-- The rule of each table is computed once, over all its entries, and taken to the alphabet of the call.
use Rattle.std.proofs.Common.{sym, subst}
use Rattle.algebra.proofs.Tests.{every}
use Rattle.alphabet.specs.Codes.{code_on}
use Rattle.alphabet.specs.declared.Alphabet.TheVariants.{Sixteen, ThirtyTwo}
use Rattle.alphabet.specs.declared.Alphabet.{Alphabet}
use Rattle.definitions.specs.Field.{sum_of, double, shifted}
use Rattle.definitions.specs.Tools.{smallest}
use Rattle.tables.proofs.Rules.{inverses_right_lem}
use Rattle.tables.specs.Table.{Inverses}
use Rattle.tables.proofs.inverses.Goals as goal

-- The inverses of sixteen symbols.
pub returns-in-Sixteen : goal.returns-in-Sixteen
unfolding every smallest sum_of double shifted
returns-in-Sixteen c = subst (λ (w : Alphabet). Inverses (code_on w) _) (sym c.in-Sixteen.is) (inverses_right_lem (code_on Sixteen) _ tt)

-- Those of thirty-two.
pub returns-in-ThirtyTwo : goal.returns-in-ThirtyTwo
unfolding every smallest sum_of double shifted
returns-in-ThirtyTwo c = subst (λ (w : Alphabet). Inverses (code_on w) _) (sym c.in-ThirtyTwo.is) (inverses_right_lem (code_on ThirtyTwo) _ tt)
