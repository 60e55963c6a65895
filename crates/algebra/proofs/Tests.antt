-- Tests of all numbers below a limit, computed, and what they prove.
-- Assumes nothing.
use mathlib.Core.Bool.{Bool, true, false, ◌&&◌, ◌||◌}
use mathlib.Core.Path.{subst, sym}
use Prim.Native.Nat.{ℕ, zero, suc, ◌<◌}
use native.Mathlib.Decide.{ℕ_discrete}
use native.Mathlib.Nat.{not-suc-le-zero}
use native.Mathlib.Omega.{arith}
use lib.Dec.{T}

-- every number below q passes
unfoldable pub every : ℕ → (ℕ → Bool) → Bool
every zero test = true
every (suc q) test = test q && every q test

-- every pair of numbers below q passes
abbrev pub every_pair : ℕ → (ℕ → ℕ → Bool) → Bool
every_pair q test = every q (λ a. every q (λ b. test a b))

-- of two tests that pass together the first passes
pub first_passes : (a b : Bool) → T (a && b) → T a
first_passes true b t = tt
first_passes false b t = t

-- and the second
pub second_passes : (a b : Bool) → T (a && b) → T b
second_passes true b t = t
second_passes false b t = absurd t

-- where all below q pass, each does
pub every_at : (q : ℕ) (test : ℕ → Bool) → T (every q test) → (a : ℕ) → a < q → T (test a)
unfolding every
every_at zero test t a h = absurd (not-suc-le-zero h)
every_at (suc q) test t a h =
    elim (ℕ_discrete a q) [
      | yes e ↦ subst (λ (b : ℕ). T (test b)) (sym e) (first_passes (test q) (every q test) t)
      | no n ↦ every_at q test (second_passes (test q) (every q test) t) a (omega arith)
    ]

-- where all pairs below q pass, each does
pub every_pair_at : (q : ℕ) (test : ℕ → ℕ → Bool) → T (every_pair q test) → (a b : ℕ) → a < q → b < q → T (test a b)
every_pair_at q test t a b ha hb = every_at q (λ y. test a y) (every_at q (λ x. every q (λ y. test x y)) t a ha) b hb

-- of two tests of which one passes the second does, where the first does not
pub other_passes : (a b : Bool) → T (a || b) → (T a → ⊥) → T b
other_passes true b t n = absurd (n tt)
other_passes false b t n = t
