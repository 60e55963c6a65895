-- The operands of the field's entries: which is no symbol, and what is known of those that pass.
-- Assumes nothing.
use mathlib.Core.Bool.{Bool, true, false, cond, ◌&&◌, true≢false}
use mathlib.Core.List.{[], ◌∷◌}
use mathlib.Core.Path.{◌≡◌, refl, sym, ◌∙◌, ap}
use Prim.Native.Nat.{ℕ, ◌-◌, ◌≤◌, ◌<◌}
use native.Mathlib.Omega.{arith}
use borrow.Author.Tests.{lt-ltb, le-ltb, eq-eqb, ne_eqb}
use lib.Dec.{eqb, ltb}
use Rattle.definitions.proofs.Refusals.{none_above_lem}
use Rattle.definitions.proofs.Table.{Gives, stop, Accepts, next, end, above_means}
use Rattle.definitions.specs.Field.{Code}
use Rattle.definitions.specs.Polynomial.{is_zero}
use Rattle.definitions.specs.Refusals.{first_above, symbols, zeroes, field_table, inverse_table}
use Rattle.refusals.specs.Checked.{Outcome, passed, refused_at, or_line}
use Rattle.refusals.specs.Tries.{line_of}
use Rattle.refusals.specs.declared.Refusal.TheVariants.{Symbol, Zero}

-- the greatest symbol
abbrev greatest : Code → ℕ
greatest C = C.symbols - 1

module _ (C : Code) (a b : ℕ) where
  -- which operand is no symbol
  pub first_is_bad : greatest C < a → 0 ≡ first_above (greatest C) (a ∷ b ∷ [])
  unfolding first_above
  first_is_bad h = simp (lt-ltb (greatest C) a h)

  pub second_is_bad : a ≤ greatest C → greatest C < b → 1 ≡ first_above (greatest C) (a ∷ b ∷ [])
  unfolding first_above
  second_is_bad ha hb = simp (le-ltb (greatest C) a ha, lt-ltb (greatest C) b hb)

  pub none_is_bad : a ≤ greatest C → b ≤ greatest C → 2 ≡ first_above (greatest C) (a ∷ b ∷ [])
  unfolding first_above
  none_is_bad ha hb = simp (le-ltb (greatest C) a ha, le-ltb (greatest C) b hb)

  -- an operand is refused
  pub operand_refused : first_above (greatest C) (a ∷ b ∷ []) < 2 → Gives (field_table C a b) 5 (first_above (greatest C) (a ∷ b ∷ []))
  operand_refused h = stop (lt-ltb _ _ h)

  pub operands_accepted : 2 ≤ first_above (greatest C) (a ∷ b ∷ []) → Accepts (field_table C a b)
  operands_accepted h = next (le-ltb _ _ h) end

  -- so both are symbols
  pub operands_symbols : 0 < C.symbols → 2 ≤ first_above (greatest C) (a ∷ b ∷ []) → (a < C.symbols) × (b < C.symbols)
  operands_symbols pos h = let first = none_above_lem (greatest C) (a ∷ b ∷ []) h 0 in let second = none_above_lem (greatest C) (a ∷ b ∷ []) h 1 in (omega arith, omega arith)

-- the one operand of the inverse: no symbol, or zero
module _ (o : Outcome) (a : ℕ) where
  pub symbol_line : (C : Code) → or_line o (line_of (ltb (greatest C) a) (Symbol 0)) ≡ or_line o (symbols C (a ∷ []))
  unfolding first_above
  symbol_line C = by_test o (ltb (greatest C) a)
    where
      by_test : (o : Outcome) (b : Bool) → or_line o (line_of b (Symbol 0)) ≡ or_line o (record { number = 5; given = ltb (cond b 0 1) 1; place = cond b 0 1 })
      by_test (refused_at number place) b = refl
      by_test passed true = refl
      by_test passed false = refl

  pub zero_line : or_line o (line_of (eqb a 0) Zero) ≡ or_line o (zeroes (a ∷ []))
  unfolding is_zero
  zero_line = ap (λ (b : Bool). or_line o (line_of b Zero)) (and_true (eqb a 0))
    where
      and_true : (b : Bool) → b ≡ (b && true)
      and_true true = refl
      and_true false = refl

-- an operand that passes both
pub nonzero_symbol : (C : Code) (a : ℕ) → 0 < C.symbols → Accepts (inverse_table C a) → (a < C.symbols) × (a ≡ 0 → ⊥)
unfolding is_zero
nonzero_symbol C a pos (next s (next z end)) =
    let h = above_means (greatest C) (a ∷ []) s 0 in
    (omega arith, λ e. true≢false (sym (ap (λ (b : Bool). b && true) (eq-eqb a 0 e)) ∙ z))

pub inverse_accepts : (C : Code) (a : ℕ) → a ≤ greatest C → (a ≡ 0 → ⊥) → Accepts (inverse_table C a)
unfolding first_above is_zero
inverse_accepts C a h n =
    next (ap (λ (b : Bool). ltb (cond b 0 1) 1) (le-ltb (greatest C) a h)) (next (ap (λ (b : Bool). b && true) (ne_eqb a 0 n)) end)
