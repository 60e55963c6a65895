-- The entries of a matrix are those of the bytes that it was loaded from.
-- Assumes nothing.
use mathlib.Core.List.{List}
use mathlib.Core.Path.{◌≡◌, ◌∙◌, ap}
use Prim.Native.Nat.{ℕ, ◌+◌, ◌*◌, ◌≤◌, ◌<◌}
use native.Mathlib.Decide.{dec_lt}
use native.Mathlib.Nat.{mul-le-mul_left}
use native.Mathlib.Omega.{arith}
use lib.ListN.{length, get_or-eq_default}
use Rattle.algebra.specs.Grid.{entry_of}
use Rattle.definitions.specs.Field.{Code}
use Rattle.definitions.specs.Weights.{entry}
use Rattle.matrix.proofs.Columns.{matrix_entry}
use Rattle.matrix.specs.Columns.{matrix_of}

module _ (C : Code) (m : List ℕ) (n : ℕ) (small : n ≤ C.positions) (size : length m ≡ C.symbols * n) (a : List (List ℕ)) (loaded : a ≡ matrix_of C m n) where
  -- the entry of a position and a symbol is that of the bytes
  pub entry_is : (i b : ℕ) → i < C.positions → b < C.symbols → entry_of a i b ≡ entry C m i b
  entry_is i b hi hb = ap (λ (x : List (List ℕ)). entry_of x i b) loaded ∙ matrix_entry C m n small size i b hi hb

  -- a position with a multiplicity is one of the n
  pub used : (i b : ℕ) → b < C.symbols → 0 < entry C m i b → i < n
  used i b hb h =
      elim (dec_lt i n) [
        | yes l ↦ l
        | no l ↦
            let past : C.symbols * n ≤ C.symbols * i = mul-le-mul_left C.symbols (omega arith) in
            let z = get_or-eq_default m 0 {n = C.symbols * i + b} (omega arith) in
            let y : ⊥ = omega arith in absurd y
      ]
