-- What the lines of a proposal say of the call that passes them: what the check and the list ask for.
-- Assumes nothing.
use mathlib.Core.Bool.{false, not}
use mathlib.Core.List.{List}
use mathlib.Core.Path.{◌≡◌, sym, ◌∙◌, ap}
use Prim.Native.Nat.{ℕ, ◌*◌, ◌-◌, ◌≤◌}
use native.Mathlib.Omega.{arith}
use lib.Dec.{eqb}
use lib.ListN.{length, take, get_or}
use lib.Seq.{get_or-take}
use Rattle.definitions.proofs.Table.{sizes_mean, degree_means, entries_mean, above_means}
use Rattle.definitions.specs.Bound.{count}
use Rattle.definitions.specs.Code.{Symbols}
use Rattle.definitions.specs.Field.{Code}
use Rattle.definitions.specs.Refusals.{sizes, degree, entries_of}
use Rattle.passing.specs.Derivatives.{Low, Given}

-- no entry of a matrix in front of the entries is above the greatest level
pub low_front : (many : ℕ) (m entries : List ℕ) → take many entries ≡ m → (entries_of m).given ≡ false → Low many entries
low_front many m entries front e j h =
    let same = sym (get_or-take many entries j 0 h) ∙ ap (λ (l : List ℕ). get_or l j 0) front in
    let low = above_means _ m e j in omega arith

-- the sizes, a degree limit, as many coefficients as it says, and each a symbol
pub given_of_lines : (C : Code) (n k D number : ℕ) (q entries : List ℕ) → (sizes C n k).given ≡ false → (degree (k - 1) D).given ≡ false
    → number ≡ count (k - 1) D → not (eqb (length q) number) ≡ false → Symbols C q → C.symbols * n ≤ length entries → Low (C.symbols * n) entries
    → Given C n (k - 1) D entries q
given_of_lines C n k D number q entries sized few counted full symbol whole low =
    let z = sizes_mean C n k sized in
    record {
      small = z.2;
      positive = omega arith;
      few = degree_means (k - 1) D few;
      full = entries_mean number q full ∙ counted;
      coefficients = symbol;
      whole = whole;
      low = low;
    }
