-- Lists of coefficients evaluate into any commutative algebra, and the evaluation is a homomorphism.
-- Assumes nothing.
use mathlib.Core.List.{List, map}
use mathlib.Core.Path.{◌≡◌, ◌∙◌, ap}
use Prim.Native.Nat.{ℕ}
use Rattle.definitions.specs.Field.{power, value}
use Rattle.definitions.specs.Roots.{plus, scaled, times, powers}
use Rattle.algebra.specs.Ring.{Ring, Hom}
use Rattle.algebra.proofs.Carry.{carry_plus, carry_scaled, carry_times, carry_powers}
use Rattle.algebra.proofs.Polynomials.{value_plus, value_scaled, value_times, value_powers}

module _ (A R : Ring) (h : Hom A.ops R.ops) where
  open R.ops use {K, add as ◌⊕◌, mul as ◌⊗◌}
  open h use {φ}

  infixl 60 ◌⊕◌
  infixl 70 ◌⊗◌
  -- the value at r in the algebra
  abbrev pub evaluate : K → List A.ops.K → K
  evaluate r p = value R.ops r (map φ p)

  -- of a sum
  pub evaluate_sum : (r : K) (p q : List A.ops.K) → evaluate r (plus A.ops p q) ≡ evaluate r p ⊕ evaluate r q
  evaluate_sum r p q = ap (value R.ops r) (carry_plus A.ops R.ops h p q) ∙ value_plus R r (map φ p) (map φ q)

  -- of a multiple
  pub evaluate_multiple : (r : K) (c : A.ops.K) (q : List A.ops.K) → evaluate r (scaled A.ops c q) ≡ φ c ⊗ evaluate r q
  evaluate_multiple r c q = ap (value R.ops r) (carry_scaled A.ops R.ops h c q) ∙ value_scaled R r (φ c) (map φ q)

  -- of a product
  pub evaluate_product : (r : K) (p q : List A.ops.K) → evaluate r (times A.ops p q) ≡ evaluate r p ⊗ evaluate r q
  evaluate_product r p q = ap (value R.ops r) (carry_times A.ops R.ops h p q) ∙ value_times R r (map φ p) (map φ q)

  -- of a power
  pub evaluate_power : (r : K) (p : List A.ops.K) (n : ℕ) → evaluate r (powers A.ops p n) ≡ power R.ops (evaluate r p) n
  evaluate_power r p n = ap (value R.ops r) (carry_powers A.ops R.ops h p n) ∙ value_powers R r (map φ p) n
