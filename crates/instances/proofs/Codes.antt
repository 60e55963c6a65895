-- Sixteen symbols are a field, and so are thirty-two; the theorem for either.
-- Assumes nothing.
use mathlib.Core.Bool.{true}
use mathlib.Core.List.{List}
use mathlib.Core.Path.{◌≡◌}
use Prim.Native.Nat.{ℕ, suc, ◌≤◌, ◌<◌}
use native.Mathlib.Omega.{arith}
use lib.ListN.{length}
use Rattle.alphabet.specs.Codes.{code_on}
use Rattle.alphabet.specs.declared.Alphabet.TheVariants.{Sixteen, ThirtyTwo}
use Rattle.alphabet.specs.declared.Alphabet.{Alphabet}
use Rattle.definitions.specs.Code.{Symbols}
use Rattle.definitions.specs.Field.{sixteen, thirty_two, sum_of, double, shifted, power}
use Rattle.definitions.specs.Polynomial.{Through}
use Rattle.definitions.specs.Roots.{is_root}
use Rattle.definitions.specs.Tools.{smallest}
use Rattle.definitions.specs.Weights.{score}
use Rattle.algebra.specs.FieldOf.{FieldOf}
use Rattle.algebra.proofs.Finite.{Tested, finite}
use Rattle.algebra.proofs.Score as Score
use Rattle.algebra.proofs.Tests.{every}
use Rattle.instances.proofs.SixteenTested.{sixteen_tested}

-- the numbers below 16, with the sum and the product of document 01, are a field whose fifteen points differ
pub sixteen_field : FieldOf sixteen
sixteen_field = finite 4 19 sixteen.positions sixteen_tested

-- what is computed of thirty-two symbols: at most 1,024 pairs
thirty_two_tested : Tested 5 37 thirty_two.positions
unfolding every sum_of double shifted smallest power
thirty_two_tested =
    record {
      wide = omega arith;
      double_symbol = tt;
      double_sum = tt;
      double_product = tt;
      product_comm = tt;
      product_one = tt;
      product_inverse = tt;
      points_differ = tt;
    }

-- so whatever is stated over any code that carries a field has a second instance
pub thirty_two_field : FieldOf thirty_two
thirty_two_field = finite 5 37 thirty_two.positions thirty_two_tested

-- either alphabet carries a field
pub field_on : (w : Alphabet) → FieldOf (code_on w)
field_on Sixteen = sixteen_field
field_on ThirtyTwo = thirty_two_field

-- every message of score above D is a y-root of every polynomial of weighted degree at most D that passes, whoever made it
pub score_above_degree_is_root : (w : Alphabet) (n v D : ℕ) (m q f : List ℕ) → n ≤ (code_on w).positions → Symbols (code_on w) q → Through (code_on w) n v D m q
    → Symbols (code_on w) f → length f ≤ suc v → D < score (code_on w) n m f → is_root (code_on w) v D q f ≡ true
score_above_degree_is_root w = Score.score_above_degree_is_root (code_on w) (field_on w)
