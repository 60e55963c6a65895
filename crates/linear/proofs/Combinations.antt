-- Rows times vectors, over any commutative ring of characteristic 2: sums and multiples of rows, rows of zeros and vectors that end.
-- Assumes nothing.
use mathlib.Core.Path.{◌≡◌, refl, sym, ◌∙◌, ap}
use Prim.Native.Nat.{ℕ, zero, suc, ◌≤◌, ◌<◌}
use native.Mathlib.Omega.{arith}
use Rattle.algebra.proofs.Linear.{dot_none, dot_equal, dot_ended}
use Rattle.algebra.specs.Dot.{dot}
use Rattle.algebra.proofs.RingLaws.{ring, plus_zero, zero_plus, times_zero, zero_times}
use Rattle.algebra.specs.Ring.{Ring}

module _ (A : Ring) where
  open A.ops use {K, o, i, add as ◌⊕◌, mul as ◌⊗◌}

  infixl 60 ◌⊕◌
  infixl 70 ◌⊗◌
  -- equal rows have equal products
  pub dot_rows : (n : ℕ) (r s q : ℕ → K) → ((k : ℕ) → k < n → r k ≡ s k) → dot A.ops n r q ≡ dot A.ops n s q
  dot_rows n r s q e = dot_equal A.ops n r s q q e (λ k h. refl)

  -- one entry more
  added_step : (x y c r s q : K) → (x ⊕ c ⊗ y) ⊕ (r ⊕ c ⊗ s) ⊗ q ≡ (x ⊕ r ⊗ q) ⊕ c ⊗ (y ⊕ s ⊗ q)
  added_step x y c r s q = simp ring

  -- a row and a multiple of another
  pub dot_added : (n : ℕ) (r s q : ℕ → K) (c : K) → dot A.ops n (λ k. r k ⊕ c ⊗ s k) q ≡ dot A.ops n r q ⊕ c ⊗ dot A.ops n s q
  unfolding dot
  dot_added zero r s q c = sym (zero_plus A (c ⊗ o) ∙ times_zero A c)
  dot_added (suc n) r s q c =
      ap (λ (x : K). x ⊕ (r n ⊕ c ⊗ s n) ⊗ q n) (dot_added n r s q c)
      ∙ added_step (dot A.ops n r q) (dot A.ops n s q) c (r n) (s n) (q n)

  -- a row of zeros
  pub dot_zeros : (n : ℕ) (r q : ℕ → K) → ((k : ℕ) → k < n → r k ≡ o) → dot A.ops n r q ≡ o
  dot_zeros n r q e =
      dot_ended A.ops (plus_zero A) n 0 r q (omega arith) (λ k _ h. ap (λ (x : K). x ⊗ q k) (e k h) ∙ zero_times A (q k)) ∙ dot_none A.ops r q

  -- a vector that ends before j
  pub dot_ends : (n j : ℕ) (r q : ℕ → K) → j ≤ n → ((k : ℕ) → j ≤ k → k < n → q k ≡ o) → dot A.ops n r q ≡ dot A.ops j r q
  dot_ends n j r q h e = dot_ended A.ops (plus_zero A) n j r q h (λ k l f. ap (λ (x : K). r k ⊗ x) (e k l f) ∙ times_zero A (r k))
