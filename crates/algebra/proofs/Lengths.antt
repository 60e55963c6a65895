-- How long a power of a polynomial is.
-- Assumes nothing.
use mathlib.Core.List.{List}
use Prim.Native.Nat.{ℕ, zero, suc, ◌*◌, ◌≤◌}
use native.Mathlib.Omega.{arith}
use lib.ListN.{length}
use Rattle.definitions.specs.Field.{Ops}
use Rattle.definitions.specs.Roots.{powers}
use Rattle.algebra.proofs.Polynomials.{length_times}

module _ (A : Ops) where
  open A use {K}

  -- a power multiplies the degree
  pub length_powers : (p : List K) (n v : ℕ) → length p ≤ suc v → length (powers A p n) ≤ suc (n * v)
  unfolding powers
  length_powers p zero v h = omega arith
  length_powers p (suc n) v h = let r = length_times A p (powers A p n) v (n * v) h (length_powers p n v h) in omega arith
