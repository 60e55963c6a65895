-- A system of zeros.
-- Assumes nothing.
use mathlib.Core.List.{List, []}
use mathlib.Core.Path.{sym, ap, subst}
use Prim.Native.Nat.{ℕ, ◌<◌}
use native.Mathlib.Decide.{dec_lt}
use native.Mathlib.Omega.{arith}
use lib.ListN.{length, get_or, replicate, get_or-replicate, length-replicate, get_or-eq_default}
use Rattle.algebra.proofs.Elements.{zero_symbol}
use Rattle.algebra.specs.FieldOf.{FieldOf}
use Rattle.blocks.proofs.Filled.{zeros_from}
use Rattle.blocks.specs.Row.{width, ZeroFrom}
use Rattle.conditions.specs.MaskedRows.{Clear}
use Rattle.definitions.specs.Field.{Code}
use Rattle.pivots.specs.System.{System}

-- rows of zeros are clear
pub empty_clear : (n : ℕ) → Clear 0 0 (replicate n (replicate width 0))
empty_clear n r _ h =
    subst (ZeroFrom 0) (sym (get_or-replicate n r (replicate width 0) [] (let e = length-replicate n (replicate {A = ℕ} width 0) in omega arith))) (zeros_from 0)

module _ (o : List (List ℕ)) (clear : Clear 0 0 o) where
  -- from each column on
  pub clear_from : (n : ℕ) → Clear 0 n o
  clear_from n r l h = record { wide = (clear r l h).wide; zeros = λ k _. (clear r l h).zeros k (omega arith) }

  -- and a system
  pub clear_system : (C : Code) → FieldOf C → System C o
  clear_system C F = record {
    wide = λ t h. (clear t (omega arith) h).wide;
    symbols = λ r k. elim (dec_lt r (length o)) [
      | yes h ↦ subst (λ (x : ℕ). x < C.symbols) (sym ((clear r (omega arith) h).zeros k (omega arith))) (zero_symbol C F)
      | no l ↦ subst (λ (x : ℕ). x < C.symbols) (sym (ap (λ (row : List ℕ). get_or row k 0) (get_or-eq_default o [] {n = r} (omega arith)))) (zero_symbol C F)
    ];
  }
