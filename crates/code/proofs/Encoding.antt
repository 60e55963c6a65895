-- The steps of the loops, over plain numbers and lists and any code.
-- Assumes nothing.
use mathlib.Core.List.{List, ◌++◌, reverse}
use mathlib.Core.Path.{◌≡◌, sym, ◌∙◌, ap}
use Prim.Native.Nat.{ℕ, ◌+◌, ◌-◌, ◌≤◌, ◌<◌}
use native.Mathlib.Numerals.{add-one}
use native.Mathlib.Omega.{arith}
use Rattle.std.proofs.lemmas.List.{get_or-reverse, get_or_default, length-reverse}
use lib.ListN.{length, drop, get_or, set}
use lib.Seq.{drop-length}
use Rattle.algebra.proofs.Numbers.{point_symbol, value_symbol}
use Rattle.algebra.specs.FieldOf.{FieldOf}
use Rattle.definitions.proofs.Codeword.{power_zero, power_suc, value_nil, value_step}
use Rattle.definitions.proofs.Loops.{map_none, map_more}
use Rattle.definitions.proofs.Symbols.{drop_symbols}
use Rattle.definitions.specs.Code.{Symbols, point, codeword}
use Rattle.definitions.specs.Field.{Code, numbers, value}

module _ (C : Code) where
  -- before Horner's first step
  pub empty_value : (x : ℕ) (f : List ℕ) → 0 ≡ value (numbers C) x (drop (length f) f)
  empty_value x f = rw (drop-length f) (sym (value_nil (numbers C) x))

  -- Horner's step
  pub value_more : (x : ℕ) (f : List ℕ) (j y p : ℕ) → 0 < j → j ≤ length f → y ≡ value (numbers C) x (drop j f) → p ≡ C.times x y
      → C.plus (get_or f (j - 1) 0) p ≡ value (numbers C) x (drop (j - 1) f)
  value_more x f j y p h l ey ep = ap (C.plus (get_or f (j - 1) 0)) (ep ∙ ap (C.times x) ey) ∙ sym (value_step (numbers C) x f j h l)

  -- Horner's step at c, which n coefficients stand behind
  pub value_back : (x : ℕ) (f : List ℕ) (n m c y p : ℕ) → (n < length (reverse f)) × (c ≡ get_or (reverse f) n c) → m ≡ n + 1
      → y ≡ value (numbers C) x (drop (length f - n) f) → p ≡ C.times x y → C.plus c p ≡ value (numbers C) x (drop (length f - m) f)
  value_back x f n m c y p met more ey ep =
      let low : n < length f = omega (arith, length-reverse f, met.0) in
      let here : c ≡ get_or f (length f - 1 - n) 0 = met.1 ∙ get_or-reverse f n c low ∙ get_or_default f (length f - 1 - n) c 0 (omega arith) in
      let place : length f - 1 - n ≡ length f - n - 1 = omega arith in
      let next : length f - n - 1 ≡ length f - m = omega arith in
      ap (λ (k : ℕ). C.plus k p) (here ∙ ap (λ (k : ℕ). get_or f k 0) place)
      ∙ value_more x f (length f - n) y p (omega arith) (omega arith) ey ep ∙ ap (λ (k : ℕ). value (numbers C) x (drop k f)) next

  -- the points, one after the other
  pub first_point : 1 ≡ point C 0
  first_point = sym (power_zero (numbers C) C.α)

  pub next_point : (i x y : ℕ) → x ≡ point C i → y ≡ C.times C.α x → y ≡ point C (i + 1)
  next_point i x y ex ey = ey ∙ ap (C.times C.α) ex ∙ sym (power_suc (numbers C) C.α i) ∙ ap (point C) (sym (add-one i))

  -- no symbol of a codeword is written yet
  pub none_written : (f out : List ℕ) → out ≡ codeword C 0 f ++ out
  none_written f out = map_none (λ (i : ℕ). value (numbers C) (point C i) f) out

  -- one symbol more of a codeword is written
  pub symbol_more : (f out now : List ℕ) (i x y : ℕ) → i < length out → now ≡ codeword C i f ++ drop i out → x ≡ point C i
      → y ≡ value (numbers C) x f → set now i y ≡ codeword C (i + 1) f ++ drop (i + 1) out
  symbol_more f out now i x y h e ex ey =
      map_more (λ (i : ℕ). value (numbers C) (point C i) f) out now i y h e (ey ∙ ap (λ (z : ℕ). value (numbers C) z f) ex)

module _ (C : Code) (F : FieldOf C) where
  -- what Horner's rule has come to is a symbol
  pub value_so_far : (x : ℕ) (f : List ℕ) (j y : ℕ) → x < C.symbols → Symbols C f → y ≡ value (numbers C) x (drop j f) → y < C.symbols
  value_so_far x f j y h s e = rw e (value_symbol C F x (drop j f) h (drop_symbols C j f s))

  -- a point is a symbol
  pub point_so_far : (i x : ℕ) → x ≡ point C i → x < C.symbols
  point_so_far i x e = rw e (point_symbol C F i)
