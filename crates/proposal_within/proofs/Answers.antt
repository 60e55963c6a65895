-- What is known of a call that passes the lines that are left of a proposal's list.
-- Assumes nothing.
use mathlib.Core.Bool.{true, false, not}
use mathlib.Core.List.{List}
use mathlib.Core.Path.{◌≡◌, sym, ap, subst}
use Prim.Native.Nat.{ℕ, ◌-◌, ◌/◌, ◌≤◌}
use native.Mathlib.Omega.{arith}
use borrow.Author.Tests.{le-ltb}
use Rattle.definitions.proofs.Monomials.{degree_grows}
use Rattle.definitions.proofs.Powers.{powers_of_y}
use Rattle.definitions.proofs.Table.{Accepts, next, end}
use Rattle.definitions.specs.Bound.{bound}
use Rattle.definitions.specs.Field.{Code}
use Rattle.definitions.specs.Limits.{greatest_rows}
use Rattle.definitions.specs.Polynomial.{is_zero}
use Rattle.definitions.specs.Proposals.{is_yes, within_bound, proposed}
use Rattle.definitions.specs.Refusals.{cost_within}
use Rattle.definitions.specs.Weights.{cost}
use Rattle.list_within.proofs.Found.{degree_small}
use Rattle.list_within.specs.Within.{Rooted, Fit}
use Rattle.passing.specs.Derivatives.{Given}
use Rattle.proposal_within.specs.Lines.{list_lines}

module _ (C : Code) (n k G D : ℕ) (q : List ℕ) where
  -- the lines that are left
  pub lines_passed : (m : List ℕ) → cost m ≤ G → D ≤ bound (k - 1) (cost m) → is_yes C n (k - 1) D m q ≡ true → Accepts (list_lines C n k G D q m)
  lines_passed m cheap within agreed =
      next {l = cost_within G m} (le-ltb G (cost m) cheap)
      (next {l = within_bound (k - 1) m D} (le-ltb (bound (k - 1) (cost m)) D within) (next {l = proposed C n (k - 1) D m q} (ap not agreed) end))

  -- a polynomial other than zero within the bound of a cost within the limit has few roots
  pub proposal_rooted : (price : ℕ) {B rows scores : ℕ} {entries : List ℕ} → Fit C n k G rows scores → Given C n (k - 1) D entries q → price ≤ G
      → D ≤ B → is_zero q ≡ false → B ≡ bound (k - 1) price → Rooted C n k D B q
  proposal_rooted price {B} f g cheap within other is_bound =
      let low = f.low in
      let small = degree_small (k - 1) price B g.positive (omega arith) is_bound in
      let grows = degree_grows (k - 1) D B g.positive within in
      let powers = subst (λ (x : ℕ). x / (k - 1) ≤ greatest_rows) (sym is_bound) (powers_of_y (k - 1) g.positive price (omega arith)) in
      record {
        sized = f.sized;
        few = g.few;
        low = omega arith;
        threshold = omega arith;
        full = g.full;
        symbols = g.coefficients;
        nonzero = other;
      }
