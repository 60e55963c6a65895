-- The laws of powers, values and codewords, for loops that write symbol after symbol.
-- Assumes nothing.
use mathlib.Core.List.{List, [], ◌∷◌}
use mathlib.Core.Path.{◌≡◌, refl}
use Prim.Native.Nat.{ℕ, suc, ◌-◌, ◌≤◌, ◌<◌}
use native.Mathlib.Omega.{arith}
use lib.ListN.{length, get_or, drop}
use lib.Seq.{drop-cons}
use Rattle.definitions.specs.Code.{point, codeword}
use Rattle.definitions.specs.Field.{Ops, Code, numbers, power, value}
use Rattle.definitions.proofs.Tools.{length_map_below, map_below_at}

module _ (A : Ops) where
  open A use {K, o, i, add as ◌⊕◌, mul as ◌⊗◌}

  infixl 60 ◌⊕◌
  infixl 70 ◌⊗◌
  -- the power 0 is one
  pub power_zero : (x : K) → power A x 0 ≡ i
  unfolding power
  power_zero x = refl

  -- one power more, one factor more
  pub power_suc : (x : K) (n : ℕ) → power A x (suc n) ≡ x ⊗ power A x n
  unfolding power
  power_suc x n = refl

  -- with no coefficients the value is zero
  pub value_nil : (x : K) → value A x [] ≡ o
  unfolding value
  value_nil x = refl

  -- one lowest coefficient more
  pub value_cons : (x c : K) (f : List K) → value A x (c ∷ f) ≡ c ⊕ x ⊗ value A x f
  unfolding value
  value_cons x c f = refl

  -- Horner's step, from the end
  pub value_step : (x : K) (f : List K) (j : ℕ) → 0 < j → j ≤ length f → value A x (drop (j - 1) f) ≡ get_or f (j - 1) o ⊕ x ⊗ value A x (drop j f)
  value_step x f j h l =
      let e : suc (j - 1) ≡ j = omega arith in
      rw (drop-cons f (j - 1) o (omega arith), e) (value_cons x (get_or f (j - 1) o) (drop j f))

module _ (C : Code) (f : List ℕ) where
  -- a codeword has n symbols
  pub length_codeword : (n : ℕ) → length (codeword C n f) ≡ n
  length_codeword n = length_map_below (λ (i : ℕ). value (numbers C) (point C i) f) n

  -- symbol i is the value at point i
  pub codeword_at : (n i : ℕ) → i < n → get_or (codeword C n f) i 0 ≡ value (numbers C) (point C i) f
  codeword_at n i h = map_below_at (λ (i : ℕ). value (numbers C) (point C i) f) n i 0 h
