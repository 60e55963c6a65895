-- Q(x, f(x)): its value at r is that of Q at (r, f(r)), and its degree is at most the weighted degree of Q.
-- Assumes nothing.
use mathlib.Core.List.{List, [], ◌∷◌, map}
use mathlib.Core.Path.{◌≡◌}
use Prim.Native.Nat.{ℕ, suc, ◌+◌, ◌*◌, ◌≤◌}
use native.Mathlib.Omega.{arith}
use lib.ListN.{length}
use Rattle.definitions.proofs.Codeword.{value_nil, value_cons}
use Rattle.definitions.specs.Field.{Ops, power}
use Rattle.definitions.specs.Polynomial.{Term}
use Rattle.definitions.specs.Roots.{scaled, times, powers, compose}
use Rattle.algebra.specs.Ring.{Ring, Hom}
use Rattle.algebra.proofs.Carry.{carried}
use Rattle.algebra.proofs.Evaluation.{evaluate, evaluate_sum, evaluate_multiple, evaluate_product, evaluate_power}
use Rattle.algebra.proofs.Polynomials.{length_plus, length_scaled, length_times}
use Rattle.algebra.proofs.Lengths.{length_powers}
use Rattle.algebra.proofs.RingLaws.{ring, times_assoc}
use Rattle.algebra.proofs.Every.{All}

module _ (A : Ops) where
  open A use {K, o, i}

  -- each term c x^a y^b has weighted degree a + v b at most D
  abbrev pub DegreeAtMost : ℕ → ℕ → List (Term A) → Type 0
  DegreeAtMost v D q = All (λ (m : Term A). m.1 + v * m.2 ≤ D) q

  -- for f of degree at most v, Q(x, f(x)) has degree at most D
  pub length_compose : (f : List K) (v D : ℕ) → length f ≤ suc v → (q : List (Term A)) → DegreeAtMost v D q → length (compose A f q) ≤ suc D
  unfolding compose
  length_compose f v D l [] d = omega arith
  length_compose f v D l (m ∷ q) d =
      let x = powers A (o ∷ i ∷ []) m.1 in
      let y = powers A f m.2 in
      let a : length x ≤ suc (m.1 * 1) = length_powers A (o ∷ i ∷ []) m.1 1 (omega arith) in
      let b : length y ≤ suc (m.2 * v) = length_powers A f m.2 v l in
      let c : length (times A x y) ≤ suc (m.1 * 1 + m.2 * v) = length_times A x y (m.1 * 1) (m.2 * v) a b in
      let e = d.0 in
      length_plus A (scaled A m.0 (times A x y)) (compose A f q) (suc D) (omega (arith, length_scaled A m.0 (times A x y)))
      (length_compose f v D l q d.1)

module _ (R : Ring) where
  open R.ops use {K, o, i, add as ◌⊕◌, mul as ◌⊗◌}

  infixl 60 ◌⊕◌
  infixl 70 ◌⊗◌
  -- Q(x, y)
  unfoldable pub value_at : K → K → List (Term R.ops) → K
  value_at x y [] = o
  value_at x y (m ∷ q) = m.0 ⊗ power R.ops x m.1 ⊗ power R.ops y m.2 ⊕ value_at x y q

module _ (A R : Ring) (h : Hom A.ops R.ops) where
  open R.ops use {K, o, i}
  open h use {φ, φ_zero, φ_one}

  -- the polynomial x has the value r at r
  evaluate_x : (r : K) → evaluate A R h r (A.ops.o ∷ A.ops.i ∷ []) ≡ r
  evaluate_x r = simp (value_cons, value_nil, φ_zero, φ_one, ring)

  -- in any algebra, the value of Q(x, f(x)) at r is that of Q at (r, f(r))
  pub evaluate_compose : (r : K) (f : List A.ops.K) (q : List (Term A.ops))
      → evaluate A R h r (compose A.ops f q) ≡ value_at R r (evaluate A R h r f) (map (carried A.ops R.ops h) q)
  unfolding compose value_at
  evaluate_compose r f [] = value_nil R.ops r
  evaluate_compose r f (m ∷ q) =
      simp (evaluate_sum, evaluate_multiple, evaluate_product, evaluate_power, evaluate_x, evaluate_compose r f q, times_assoc)
