-- What masks leave of a byte and of a row of symbols.
-- Assumes nothing.
use mathlib.Core.Bool.{Bool, true, false, cond}
use mathlib.Core.List.{List}
use mathlib.Core.Path.{◌≡◌, sym, ◌∙◌, ap, subst}
use Prim.Native.Nat.{ℕ, ◌*◌, ◌≤◌, ◌<◌}
use native.Mathlib.Nat.{mod-eq_of_lt}
use native.Mathlib.Omega.{arith}
use lib.Bits.{bit_and, and_mask, and_zero_r}
use lib.Dec.{eqb}
use lib.ListN.{get_or}
use Rattle.algebra.proofs.Elements.{zero_symbol}
use Rattle.algebra.proofs.Masks.{masked}
use Rattle.algebra.specs.FieldOf.{FieldOf}
use Rattle.definitions.specs.Code.{Symbols}
use Rattle.definitions.specs.Field.{Code, numbers}
use Rattle.blocks.proofs.Filled.{filled_symbols}
use Rattle.blocks.specs.Row.{block}
use Rattle.masks.specs.Masks.{kept_entry, kept_row}

-- all bits of a byte
pub all_bits : (x : ℕ) → x < 256 → bit_and x 255 ≡ x
all_bits x h = and_mask x 8 ∙ mod-eq_of_lt h

-- what a mask leaves of a byte
kept_byte : (p : Bool) (x : ℕ) → x < 256 → bit_and x (cond p 255 0) ≡ cond p x 0
kept_byte true x h = all_bits x h
kept_byte false x h = and_zero_r x

-- it is no more
kept_less : (p : Bool) (x : ℕ) → x < 256 → cond p x 0 < 256
kept_less true x h = h
kept_less false x h = omega arith

-- of a symbol it is a symbol
kept_symbol : (C : Code) → FieldOf C → (p : Bool) (x : ℕ) → x < C.symbols → cond p x 0 < C.symbols
kept_symbol C F true x h = h
kept_symbol C F false x h = zero_symbol C F

-- two masks leave what both let through
pub kept_twice : (C : Code) (p q : Bool) (x : ℕ) → x < 256 → bit_and (bit_and x (cond p 255 0)) (cond q 255 0) ≡ masked (numbers C) p q x
kept_twice C p q x h = ap (λ (y : ℕ). bit_and y (cond q 255 0)) (kept_byte p x h) ∙ kept_byte q (cond p x 0) (kept_less p x h)

-- where the symbols are bytes
module _ (C : Code) (F : FieldOf C) (bytes : C.symbols ≤ 256) where
  -- what a mask leaves of symbols are symbols
  pub kept_symbols : (blocks : ℕ) (row es : List ℕ) (asked order : ℕ) → Symbols C row → Symbols C (kept_row blocks row es asked order)
  kept_symbols blocks row es asked order sr =
      filled_symbols C F (kept_entry row es asked order) (blocks * block) (λ k _.
      subst (λ (x : ℕ). x < C.symbols) (sym (kept_byte (eqb (bit_and (get_or es k 0) asked) order) (get_or row k 0) (let h = sr k in omega arith)))
      (kept_symbol C F (eqb (bit_and (get_or es k 0) asked) order) (get_or row k 0) (sr k)))
