-- What is computed of sixteen symbols.
-- Assumes nothing.
use Rattle.definitions.specs.Field.{sixteen, sum_of, double, shifted, power}
use Rattle.definitions.specs.Tools.{smallest}
use native.Mathlib.Omega.{arith}
use Rattle.algebra.proofs.Finite.{Tested}
use Rattle.algebra.proofs.Tests.{every}

-- at most 256 pairs
pub sixteen_tested : Tested 4 19 sixteen.positions
unfolding every sum_of double shifted smallest power
sixteen_tested =
    record {
      wide = omega arith;
      double_symbol = tt;
      double_sum = tt;
      double_product = tt;
      product_comm = tt;
      product_one = tt;
      product_inverse = tt;
      points_differ = tt;
    }
