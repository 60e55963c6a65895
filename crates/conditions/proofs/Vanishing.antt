-- A masked row of bytes and its Hasse condition vanish together.
-- Assumes nothing.
use mathlib.Core.Bool.{Bool, cond}
use mathlib.Core.List.{List, []}
use mathlib.Core.Logic.{◌≢◌}
use mathlib.Core.Path.{◌≡◌, refl, sym, ◌∙◌, ap, ap₂}
use Prim.Native.Nat.{ℕ, zero, suc, ◌+◌, ◌*◌, ◌/◌, ◌≤◌, ◌<◌}
use native.Mathlib.Omega.{arith}
use lib.Bits.{bit_and}
use lib.Dec.{eqb, eqb-suc-zero}
use lib.ListN.{length, get_or}
use Rattle.algebra.proofs.Elements.{times_symbol}
use Rattle.algebra.proofs.Linear.{dot_equal}
use Rattle.algebra.proofs.Masks.{masked, masked_row, masked_symbol, masked_solves, masked_solves_at_zero}
use Rattle.algebra.proofs.Numbers.{power_symbol}
use Rattle.algebra.proofs.Parity.{within}
use Rattle.algebra.proofs.Solutions.{symbols_ended}
use Rattle.algebra.specs.Dot.{dot}
use Rattle.algebra.specs.FieldOf.{FieldOf}
use Rattle.algebra.specs.Grid.{entry_of}
use Rattle.definitions.proofs.Monomials.{monomials_in_order}
use Rattle.definitions.specs.Bound.{count}
use Rattle.definitions.specs.Code.{Symbols}
use Rattle.definitions.specs.Field.{Code, numbers, power}
use Rattle.definitions.specs.Polynomial.{terms, monomials, hasse}
use Rattle.blocks.proofs.Filled.{length_filled, filled_at, filled_symbols}
use Rattle.blocks.specs.Row.{width, block}
use Rattle.masks.proofs.Masks.{all_bits, kept_twice, kept_symbols}
use Rattle.masks.specs.Masks.{mask_byte, kept_row}
use Rattle.monomials.proofs.Rows.{powers_symbols}
use Rattle.monomials.proofs.Walk.{walked_le, x_within, y_within, walked_monomial}
use Rattle.monomials.specs.Rows.{exponent_rows, powers_row, values_row}
use Rattle.monomials.specs.Walk.{walked}
use Rattle.conditions.proofs.MaskedRows.{base_symbol}
use Rattle.conditions.specs.MaskedRows.{asked_at, base_at}

-- the test of a power of y at the symbol b: at 0 it is the order, else it has the order's bits
abbrev test_at : ℕ → ℕ → ℕ → Bool
test_at b = cond (eqb b 0) eqb within

-- what is asked for makes it
asked_test : (b e t : ℕ) → e < 256 → eqb (bit_and e (asked_at b t)) t ≡ test_at b e t
asked_test zero e t h = ap (λ (x : ℕ). eqb x t) (all_bits e h)
asked_test (suc b) e t h = rw (eqb-suc-zero b)

-- a masked row and its condition vanish together, by the symbol's test
vanish_at : (C : Code) (F : FieldOf C) (l : List (ℕ × ℕ)) (q : List ℕ) → Symbols C q → (s t a b : ℕ) → a < C.symbols → a ≢ 0 → b < C.symbols
    → (dot (numbers C) (length l) (masked_row (numbers C) (test_at b) l s t a (base_at b)) (λ k. get_or q k 0) ≡ 0
    → hasse (numbers C) (terms (numbers C) q l) s t a b ≡ 0)
    × (hasse (numbers C) (terms (numbers C) q l) s t a b ≡ 0
    → dot (numbers C) (length l) (masked_row (numbers C) (test_at b) l s t a (base_at b)) (λ k. get_or q k 0) ≡ 0)
vanish_at C F l q sq s t a zero ha na hb = masked_solves_at_zero C F l q sq s t a ha na
vanish_at C F l q sq s t a (suc b) ha na hb =
    rw (eqb-suc-zero b) (masked_solves C F l q sq s t a ha na (suc b) hb (λ e. let z : ⊥ = omega arith in absurd z))

-- the row of order (s, t) at (x, b)
abbrev pub condition_row : Code → ℕ → ℕ → ℕ → ℕ → ℕ → ℕ → ℕ → List ℕ
condition_row C v d blocks x b s t =
    kept_row blocks
    (kept_row blocks (values_row C (blocks * block) (powers_row C (d + 1) x) (powers_row C (d / v + 1) (base_at b)) (exponent_rows v (blocks * block)))
    (get_or (exponent_rows v (blocks * block)) 0 []) s s) (get_or (exponent_rows v (blocks * block)) 1 []) (asked_at b t) t

-- it has `width` entries
pub length_condition_row : (C : Code) (v d blocks x b s t : ℕ) → blocks * block ≤ width → length (condition_row C v d blocks x b s t) ≡ width
length_condition_row C v d blocks x b s t inside = length_filled _ (blocks * block) inside

-- where the symbols are bytes
module _ (C : Code) (F : FieldOf C) (bytes : C.symbols ≤ 256) where
  module _ (v D blocks a b s t : ℕ) (ha : a < C.symbols) (hb : b < C.symbols) where
    -- the columns of the blocks
    abbrev wide : ℕ
    wide = blocks * block

    -- the values at (a, b)
    abbrev point_values : List ℕ
    point_values = values_row C wide (powers_row C (D + 1) a) (powers_row C (D / v + 1) (base_at b)) (exponent_rows v wide)

    -- the row is one of symbols
    pub condition_row_symbols : Symbols C (condition_row C v D blocks a b s t)
    condition_row_symbols =
        kept_symbols C F bytes blocks (kept_row blocks point_values (get_or (exponent_rows v wide) 0 []) s s) (get_or (exponent_rows v wide) 1 []) (asked_at b t) t
        (kept_symbols C F bytes blocks point_values (get_or (exponent_rows v wide) 0 []) s s
        (filled_symbols C F _ wide (λ k _.
        times_symbol C F _ _ (powers_symbols C F (D + 1) a ha (entry_of (exponent_rows v wide) 0 k))
        (powers_symbols C F (D / v + 1) (base_at b) (base_symbol C F b hb) (entry_of (exponent_rows v wide) 1 k)))))

    -- an entry of it is what the masks leave of the value
    kept_entry : (k : ℕ) → k < wide
        → get_or (condition_row C v D blocks a b s t) k 0
        ≡ bit_and (bit_and (get_or point_values k 0) (mask_byte (entry_of (exponent_rows v wide) 0 k) s s)) (mask_byte (entry_of (exponent_rows v wide) 1 k) (asked_at b t) t)
    kept_entry k h =
        filled_at _ wide k h ∙ ap (λ (x : ℕ). bit_and x (mask_byte (entry_of (exponent_rows v wide) 1 k) (asked_at b t) t)) (filled_at _ wide k h)

    -- the value of a monomial is a byte
    value_byte : (e f : ℕ) → C.times (power (numbers C) a e) (power (numbers C) (base_at b) f) < 256
    value_byte e f =
        let h =
        times_symbol C F (power (numbers C) a e) (power (numbers C) (base_at b) f) (power_symbol C F a ha e)
        (power_symbol C F (base_at b) (base_symbol C F b hb) f) in
        omega arith

    module _ (pos : 0 < v) (inside : wide ≤ width) where
      -- at a place of the blocks that is one of a monomial up to the degree
      module _ (k : ℕ) (h : k < wide) (l : k < count v D) where
        -- the power of x
        x_power : entry_of (exponent_rows v wide) 0 k ≡ (walked v k).0
        x_power = filled_at (λ k. (walked v k).0) wide k h

        -- and that of y
        y_power : entry_of (exponent_rows v wide) 1 k ≡ (walked v k).1
        y_power = filled_at (λ k. (walked v k).1) wide k h

        -- the monomial's value
        value_entry : get_or point_values k 0 ≡ C.times (power (numbers C) a (walked v k).0) (power (numbers C) (base_at b) (walked v k).1)
        value_entry =
            filled_at _ wide k h
            ∙ ap₂ (λ (x y : ℕ). C.times (get_or (powers_row C (D + 1) a) x 0) (get_or (powers_row C (D / v + 1) (base_at b)) y 0)) x_power y_power
            ∙ ap₂ C.times (filled_at (λ e. power (numbers C) a e) (D + 1) (walked v k).0 (x_within v pos D k l))
            (filled_at (λ e. power (numbers C) (base_at b) e) (D / v + 1) (walked v k).1 (y_within v pos D k l))

        -- the entry
        entry_is : get_or (condition_row C v D blocks a b s t) k 0 ≡ masked_row (numbers C) (test_at b) (monomials v D) s t a (base_at b) k
        entry_is =
            kept_entry k h
            ∙ ap (λ (x : ℕ). bit_and (bit_and x (mask_byte (entry_of (exponent_rows v wide) 0 k) s s)) (mask_byte (entry_of (exponent_rows v wide) 1 k) (asked_at b t) t)) value_entry
            ∙ ap₂ (λ (x y : ℕ). bit_and (bit_and value (mask_byte x s s)) (mask_byte y (asked_at b t) t)) x_power y_power
            ∙ ap (λ (q : Bool). bit_and (bit_and value (mask_byte (walked v k).0 s s)) (cond q 255 0)) (asked_test b (walked v k).1 t low)
            ∙ kept_twice C (within (walked v k).0 s) (test_at b (walked v k).1 t) value (value_byte (walked v k).0 (walked v k).1)
            ∙ ap
            (λ (m : ℕ × ℕ).
            masked (numbers C) (within m.0 s) (test_at b m.1 t) (C.times (power (numbers C) a m.0) (power (numbers C) (base_at b) m.1)))
            (sym (walked_monomial v pos D k l))
          where
            value : ℕ
            value = C.times (power (numbers C) a (walked v k).0) (power (numbers C) (base_at b) (walked v k).1)

            low : (walked v k).1 < 256
            low = let w = (walked_le v pos k).1 in omega arith

      -- coefficients that end at such a place
      module _ (na : a ≢ 0) (q : List ℕ) (sq : Symbols C q) (e : ℕ) (made : e ≤ wide) (few : e ≤ count v D) (ends : (k : ℕ) → e ≤ k → get_or q k 0 ≡ 0) where
        -- the row times them is the masked row times them
        row_dot : dot (numbers C) wide (λ k. get_or (condition_row C v D blocks a b s t) k 0) (λ k. get_or q k 0)
            ≡ dot (numbers C) (length (monomials v D)) (masked_row (numbers C) (test_at b) (monomials v D) s t a (base_at b)) (λ k. get_or q k 0)
        row_dot =
            symbols_ended C F (λ k. get_or (condition_row C v D blocks a b s t) k 0) (λ k. get_or q k 0) condition_row_symbols sq wide e made (λ k h _. ends k h)
            ∙ dot_equal (numbers C) e (λ k. get_or (condition_row C v D blocks a b s t) k 0) (masked_row (numbers C) (test_at b) (monomials v D) s t a (base_at b))
            (λ k. get_or q k 0) (λ k. get_or q k 0) (λ k h. entry_is k (omega arith) (omega arith)) (λ k h. refl)
            ∙ sym
            (symbols_ended C F (masked_row (numbers C) (test_at b) (monomials v D) s t a (base_at b)) (λ k. get_or q k 0)
            (masked_symbol C F (test_at b) (monomials v D) s t a (base_at b) ha (base_symbol C F b hb)) sq (count v D) e few (λ k h _. ends k h))
            ∙ ap (λ (n : ℕ). dot (numbers C) n (masked_row (numbers C) (test_at b) (monomials v D) s t a (base_at b)) (λ k. get_or q k 0))
            (sym (monomials_in_order v pos D).size)

        -- so it vanishes where the Hasse derivative does, and only there
        pub row_vanishes : (dot (numbers C) wide (λ k. get_or (condition_row C v D blocks a b s t) k 0) (λ k. get_or q k 0) ≡ 0
            → hasse (numbers C) (terms (numbers C) q (monomials v D)) s t a b ≡ 0)
            × (hasse (numbers C) (terms (numbers C) q (monomials v D)) s t a b ≡ 0
            → dot (numbers C) wide (λ k. get_or (condition_row C v D blocks a b s t) k 0) (λ k. get_or q k 0) ≡ 0)
        row_vanishes =
            let r = vanish_at C F (monomials v D) q sq s t a b ha na hb in
            (λ h. r.0 (sym row_dot ∙ h), λ h. row_dot ∙ r.1 h)
