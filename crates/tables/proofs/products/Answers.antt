-- The rule of each table is computed once, over all its entries, and taken to the alphabet of the call.
use Rattle.std.proofs.Common.{sym, subst, arith}
use Rattle.algebra.proofs.Tests.{every}
use Rattle.alphabet.specs.Codes.{code_on}
use Rattle.alphabet.specs.declared.Alphabet.TheVariants.{Sixteen, ThirtyTwo}
use Rattle.alphabet.specs.declared.Alphabet.{Alphabet}
use Rattle.definitions.specs.Field.{sum_of, double, shifted}
use Rattle.tables.proofs.Rules.{products_right_lem}
use Rattle.tables.specs.Table.{Tabled}
use Rattle.tables.proofs.products.Goals as goal

-- There are 16 times 16 entries, and the computed test over them is true.
pub returns-in-Sixteen : goal.returns-in-Sixteen
unfolding every sum_of double shifted
returns-in-Sixteen c =
    subst (λ (w : Alphabet). Tabled (code_on w) _) (sym c.in-Sixteen.is)
    (record { rule = products_right_lem (code_on Sixteen) _ tt; whole = omega arith })

-- There are 32 times 32.
pub returns-in-ThirtyTwo : goal.returns-in-ThirtyTwo
unfolding every sum_of double shifted
returns-in-ThirtyTwo c =
    subst (λ (w : Alphabet). Tabled (code_on w) _) (sym c.in-ThirtyTwo.is)
    (record { rule = products_right_lem (code_on ThirtyTwo) _ tt; whole = omega arith })
