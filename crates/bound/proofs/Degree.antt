-- The line of a degree limit, as it is tried: a degree of 256 or more has too many monomials, so no N(D) is counted of it.
-- Assumes nothing.
use mathlib.Core.Bool.{true}
use mathlib.Core.Path.{◌≡◌, subst}
use Prim.Native.Nat.{ℕ, ◌≤◌, ◌<◌}
use borrow.Author.Tests.{lt-ltb}
use native.Mathlib.Omega.{arith}
use lib.Dec.{ltb}
use Rattle.std.specs.Prelude.{Result}
use Rattle.definitions.proofs.Bound.{count_above}
use Rattle.definitions.specs.Bound.{count}
use Rattle.definitions.specs.Limits.{greatest_count}
use Rattle.definitions.specs.Refusals.{line, degree}
use Rattle.refusals.specs.Tries.{Tries}
use Rattle.refusals.specs.declared.Refusal.{Refusal}

pub too_many : (v D : ℕ) → 0 < v → greatest_count ≤ D → (degree v D).given ≡ true
too_many v D pos many = let above = count_above v pos D in lt-ltb greatest_count (count v D) (omega arith)

-- of any other the count decides
pub by_count : {T : Type 0} (v D x : ℕ) → x ≡ count v D → (r : Result T Refusal) → Tries (line 2 (ltb greatest_count x)) r → Tries (degree v D) r
by_count v D x is r = subst (λ (n : ℕ). Tries (line 2 (ltb greatest_count n)) r) is
