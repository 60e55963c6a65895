-- The direct form of document 02 is the bound.
-- Assumes nothing.
use native.Mathlib.Numerals.{add-one}
use Prim.Native.Nat.{◌/◌}
use Rattle.bound.specs.Direct.{DirectForm}
use Rattle.bound.proofs.Direct.{largest_once, largest_powers, direct}
use Rattle.definitions.specs.Bound.{bound}

pub direct_form : DirectForm
direct_form = record {
  largest_powers = λ v C pos. rw (add-one (bound v C / v)) (largest_powers v pos C);
  largest_once = λ v C m n a b. largest_once v C m n a b;
  direct = λ v C m pos largest. direct v pos C m largest;
}
