-- The codes of the alphabets are the page's, and what is known of the numbers of either: omega is handed it.
-- Assumes nothing.
use mathlib.Core.Path.{◌≡◌, refl}
use Prim.Native.Nat.{suc, ◌≤◌}
use native.Mathlib.Omega.{arith}
use Rattle.definitions.specs.Field.{sixteen, thirty_two}
use Rattle.alphabet.specs.Codes.{code_on}
use Rattle.alphabet.specs.declared.Alphabet.{Alphabet}
use Rattle.alphabet.specs.declared.Alphabet.TheVariants.{Sixteen, ThirtyTwo}

pub sixteen_on : code_on Sixteen ≡ sixteen
sixteen_on = refl

pub thirty_two_on : code_on ThirtyTwo ≡ thirty_two
thirty_two_on = refl

pub record Sized (w : Alphabet) : Type 0 where
  pub least : 16 ≤ (code_on w).symbols
  pub most : (code_on w).symbols ≤ 32
  pub points : suc (code_on w).positions ≡ (code_on w).symbols
  pub alpha : (code_on w).α ≡ 2

pub sized : (w : Alphabet) → Sized w
sized Sixteen = record { least = omega arith; most = omega arith; points = refl; alpha = refl }
sized ThirtyTwo = record { least = omega arith; most = omega arith; points = refl; alpha = refl }
