-- The theorem of Koetter and Vardy over any field of characteristic 2: where Q passes through the points with their multiplicities, and the score
-- of f is above the weighted degree of Q, Q(x, f(x)) is zero.
-- Assumes nothing.
use mathlib.Core.List.{List}
use Prim.Native.Nat.{ℕ, suc, ◌≤◌, ◌<◌}
use native.Mathlib.Omega.{arith}
use lib.ListN.{length}
use Rattle.definitions.specs.Field.{value}
use Rattle.definitions.specs.Polynomial.{Term, Passes}
use Rattle.definitions.specs.Roots.{compose}
use Rattle.definitions.specs.Tools.{sum}
use Rattle.algebra.specs.Ring.{Ring, IsField}
use Rattle.algebra.proofs.Composition.{DegreeAtMost, length_compose}
use Rattle.algebra.proofs.KeyLemma.{key_lemma}
use Rattle.algebra.proofs.RootCounting.{Zero, Distinct, root_counting}

module _ (A : Ring) where
  open A.ops use {K}

  -- Q passes through every (x j, b) with multiplicity m j b
  abbrev pub PassesThrough : ℕ → (ℕ → K) → (ℕ → K → ℕ) → List (Term A.ops) → Type 0
  PassesThrough n x m q = (j : ℕ) → j < n → (b : K) → Passes A.ops q (x j) b (m j b)

module _ (A : Ring) (F : IsField A) where
  open A.ops use {K}

  -- for any polynomial of weighted degree at most D
  pub score_above_degree : (n : ℕ) (x : ℕ → K) (m : ℕ → K → ℕ) (v D : ℕ) (q : List (Term A.ops)) (f : List K)
      → Distinct A.ops n x → DegreeAtMost A.ops v D q → PassesThrough A n x m q
      → length f ≤ suc v → D < sum n (λ j. m j (value A.ops (x j) f)) → Zero A.ops (compose A.ops f q)
  score_above_degree n x m v D q f distinct degree passes short above =
      let l = length_compose A.ops f v D short q degree in
      root_counting A F n x (λ j. m j (value A.ops (x j) f)) distinct (compose A.ops f q) (omega arith)
      (λ j h. key_lemma A f q (x j) (m j (value A.ops (x j) f)) (passes j h (value A.ops (x j) f)))
