-- The rows of the first monomials: powers of a symbol are symbols, and the powers that the monomials have are places of a row.
-- Assumes nothing.
use mathlib.Core.List.{List, ◌++◌}
use mathlib.Core.Path.{◌≡◌, sym, ◌∙◌, ap}
use Prim.Native.Nat.{ℕ, zero, suc, ◌+◌, ◌-◌, ◌≤◌, ◌<◌}
use native.Mathlib.Decide.{dec_lt}
use native.Mathlib.Omega.{arith}
use lib.ListN.{length, drop, get_or, length-append, length-drop, get_or-append}
use lib.Seq.{get_or-append-add, get_or-drop, ext_get_or}
use Rattle.algebra.proofs.Numbers.{power_symbol}
use Rattle.algebra.specs.FieldOf.{FieldOf}
use Rattle.definitions.specs.Code.{Symbols}
use Rattle.definitions.specs.Field.{Code, numbers, power}
use Rattle.blocks.proofs.Filled.{length_filled, filled_at, filled_rest, filled_symbols}
use Rattle.blocks.specs.Row.{width, ZeroFrom, Front, filled}
use Rattle.monomials.proofs.Walk.{walked_le}
use Rattle.monomials.specs.Walk.{walked}
use Rattle.monomials.specs.Rows.{exponent_rows, Places, powers_row}

module _ (C : Code) (F : FieldOf C) where
  -- a row of powers of a symbol is a row of symbols
  pub powers_symbols : (n x : ℕ) → x < C.symbols → Symbols C (powers_row C n x)
  powers_symbols n x h = filled_symbols C F (power (numbers C) x) n (λ e _. power_symbol C F x h e)

-- a row that is zero behind n entries is filled once these are
pub filled_front : (n : ℕ) (f : ℕ → ℕ) (row front : List ℕ) → n ≤ width → ZeroFrom n row → length front ≡ n → Front n f front → front ++ drop n row ≡ filled n f
filled_front n f row front h z size is =
    ext_get_or 0 (front ++ drop n row) (filled n f)
    (let w = z.wide in let d = length-drop n row in let e = length_filled f n h in length-append front (drop n row) ∙ omega arith) (λ k _. elim (dec_lt k n) [
      | yes l ↦ get_or-append front (drop n row) 0 k (omega arith) ∙ is k l ∙ sym (filled_at f n k l)
      | no l ↦
          let here : k ≡ length front + (k - n) = omega arith in
          let there : n + (k - n) ≡ k = omega arith in
          ap (λ (i : ℕ). get_or (front ++ drop n row) i 0) here ∙ get_or-append-add front (drop n row) (k - n) 0 ∙ get_or-drop n row (k - n) 0
          ∙ ap (λ (i : ℕ). get_or row i 0) there ∙ z.zeros k (omega arith) ∙ sym (filled_rest f n k (omega arith))
    ])

-- a row of places, where they are filled in
filled_places : (f : ℕ → ℕ) (count : ℕ) → count ≤ width → ((k : ℕ) → f k ≤ k) → (k : ℕ) → get_or (filled count f) k 0 < width
filled_places f count h low k =
    elim (dec_lt k count) [
      | yes l ↦ let e = filled_at f count k l in let b = low k in omega arith
      | no l ↦ let e = filled_rest f count k (omega arith) in omega arith
    ]

-- the powers that the monomials have are places
pub exponents_places : (v : ℕ) → 0 < v → (count : ℕ) → count ≤ width → Places (exponent_rows v count)
exponents_places v pos count h zero k = filled_places (λ k. (walked v k).0) count h (λ k. (walked_le v pos k).0) k
exponents_places v pos count h (suc zero) k = filled_places (λ k. (walked v k).1) count h (λ k. (walked_le v pos k).1) k
exponents_places v pos count h (suc (suc i)) k = omega arith
