-- What is known once the polynomial is found: of the numbers, and of where its coefficients lie.
-- Assumes nothing.
use mathlib.Core.List.{List}
use mathlib.Core.Path.{◌≡◌, sym, ◌∙◌, ap, subst}
use Prim.Native.Nat.{ℕ, ◌-◌, ◌*◌, ◌/◌, ◌≤◌, ◌<◌}
use native.Mathlib.Omega.{arith}
use lib.ListN.{length, take, drop}
use lib.Seq.{take_at}
use Rattle.definitions.proofs.Bound.{bound_le}
use Rattle.definitions.proofs.Powers.{powers_of_y}
use Rattle.definitions.specs.Bound.{count, bound}
use Rattle.definitions.specs.Field.{Code}
use Rattle.definitions.specs.Limits.{greatest_limit, greatest_rows}
use Rattle.definitions.specs.Polynomial.{Interpolates}
use Rattle.definitions.specs.Weights.{cost}
use Rattle.list_within.specs.Within.{Loaded, Rooted}
use Rattle.polynomial.proofs.Coefficients.{count_small}
use Rattle.polynomial.specs.Found.{Found}
use Rattle.matrix.proofs.Columns.{matrix_cost_lem}
use Rattle.matrix.specs.Columns.{matrix_of, matrix_cost}

-- the bound of a cost within the limit
pub degree_small : (v price D : ℕ) → 0 < v → price ≤ greatest_limit → D ≡ bound v price → D ≤ greatest_limit
degree_small v price D pos cheap is_bound = let low = bound_le v pos price in omega arith

-- the cost is that of the bytes that the matrix was loaded from
pub bound_of_cost : (C : Code) (n v price D : ℕ) (a : List (List ℕ)) (m : List ℕ) → n ≤ C.positions → D ≡ bound v price → price ≡ matrix_cost C a
    → length m ≡ C.symbols * n → a ≡ matrix_of C m n → D ≡ bound v (cost m)
bound_of_cost C n v price D a m small is_bound paid size loaded = is_bound ∙ ap (bound v) (paid ∙ ap (matrix_cost C) loaded ∙ matrix_cost_lem C m n small size)

-- the coefficients at the front of the memory, of a matrix that was loaded from bytes
module _ {C : Code} (n k : ℕ) {D N place : ℕ} {a : List (List ℕ)} {before after : List ℕ} (found : Found C a (k - 1) D before place after) where
  module _ (counts : N ≡ count (k - 1) D) (small : n ≤ C.positions) where
    pub interpolating : (m : List ℕ) → length m ≡ C.symbols * n → a ≡ matrix_of C m n → Interpolates C n (k - 1) D m (take N after)
    interpolating m size loaded =
        let prefix =
        ap (take N) found.written ∙ take_at found.coefficients (drop (length found.coefficients) before) N (found.size ∙ sym counts) in
        subst (Interpolates C n (k - 1) D m) (sym prefix) (found.interpolates m n small size loaded)

    -- at the bound of a cost within the limit they have few roots, and are ranked above the bound
    pub rooted : 2 ≤ k → k ≤ n → (price : ℕ) → price ≤ greatest_limit → D ≡ bound (k - 1) price → Loaded C a n → Rooted C n k D D (take N after)
    rooted some fits price cheap is_bound (m, size, loaded) =
        let i = interpolating m size loaded in
        let pos : 0 < k - 1 = omega arith in
        let few = count_small (k - 1) D N price pos cheap is_bound counts in
        let low = degree_small (k - 1) price D pos cheap is_bound in
        record {
          sized = (some, fits, small);
          few = omega arith;
          low = subst (λ (x : ℕ). x / (k - 1) ≤ greatest_rows) (sym is_bound) (powers_of_y (k - 1) pos price cheap);
          threshold = omega arith;
          full = i.size;
          symbols = i.symbols;
          nonzero = i.nonzero;
        }
