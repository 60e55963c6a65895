-- Lists of symbols, put together and cut.
-- Assumes nothing.
use mathlib.Core.List.{List, [], ◌∷◌, ◌++◌}
use Prim.Native.Nat.{ℕ, zero, suc, ◌+◌, ◌<◌}
use native.Mathlib.Omega.{arith}
use lib.ListN.{take, drop, replicate}
use lib.Seq.{get_or-drop}
use Rattle.definitions.specs.Code.{Symbols}
use Rattle.definitions.specs.Field.{Code}

module _ (C : Code) where
  -- one symbol more
  pub cons_symbols : (c : ℕ) (f : List ℕ) → c < C.symbols → Symbols C f → Symbols C (c ∷ f)
  cons_symbols c f h s zero = h
  cons_symbols c f h s (suc j) = s j

  -- lists of symbols, one behind the other
  pub append_symbols : (a b : List ℕ) → Symbols C a → Symbols C b → Symbols C (a ++ b)
  append_symbols [] b sa sb j = sb j
  append_symbols (x ∷ a) b sa sb zero = sa zero
  append_symbols (x ∷ a) b sa sb (suc j) = append_symbols a b (λ i. sa (suc i)) sb j

  -- a symbol n times
  pub replicate_symbols : (n c : ℕ) → c < C.symbols → Symbols C (replicate n c)
  replicate_symbols zero c h j = let z : 0 < C.symbols = omega arith in z
  replicate_symbols (suc n) c h zero = h
  replicate_symbols (suc n) c h (suc j) = replicate_symbols n c h j

  -- the symbols from place n on
  pub drop_symbols : (n : ℕ) (p : List ℕ) → Symbols C p → Symbols C (drop n p)
  drop_symbols n p s j = rw (get_or-drop n p j 0) (s (n + j))

  -- the first n symbols
  pub take_symbols : 0 < C.symbols → (n : ℕ) (p : List ℕ) → Symbols C p → Symbols C (take n p)
  take_symbols pos zero p s j = pos
  take_symbols pos (suc n) [] s j = pos
  take_symbols pos (suc n) (x ∷ p) s zero = s zero
  take_symbols pos (suc n) (x ∷ p) s (suc j) = take_symbols pos n p (λ k. s (suc k)) j
