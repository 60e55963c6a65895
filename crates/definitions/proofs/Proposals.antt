-- The check of a proposal: its test is true exactly where the polynomial is not all zero and passes.
-- Assumes nothing.
use mathlib.Core.Bool.{Bool, true, false, not, ◌&&◌}
use mathlib.Core.List.{List}
use mathlib.Core.Path.{◌≡◌, refl, sym, ap}
use Prim.Native.Nat.{ℕ, ◌-◌, ◌≤◌}
use borrow.Author.Tests.{eq-eqb, eqb-true, ltb-false, not-true}
use native.Mathlib.Omega.{arith}
use Rattle.definitions.proofs.Every.{every_at, every_of}
use Rattle.definitions.proofs.Tools.{both}
use Rattle.definitions.specs.Bound.{bound}
use Rattle.definitions.specs.Code.{point}
use Rattle.definitions.specs.Field.{Code, numbers}
use Rattle.definitions.specs.Polynomial.{terms, monomials, hasse, Passes, Through, is_zero}
use Rattle.definitions.specs.Proposals.{within_bound, passes_at, passes, is_yes}
use Rattle.definitions.specs.Weights.{entry, cost}

pub within_means : (v : ℕ) (m : List ℕ) (D : ℕ) → (within_bound v m D).given ≡ false → D ≤ bound v (cost m)
within_means v m D e = ltb-false (bound v (cost m)) D e

module _ (C : Code) (v D : ℕ) (q : List ℕ) where
  -- the Hasse derivative of order (s, t) at (xᵢ, b)
  abbrev at : ℕ → ℕ → ℕ → ℕ → ℕ
  at i b s t = hasse (numbers C) (terms (numbers C) q (monomials v D)) s t (point C i) b

  -- at one point
  passes_at_lem : (i b m : ℕ) → passes_at C v D q i b m ≡ true → Passes (numbers C) (terms (numbers C) q (monomials v D)) (point C i) b m
  passes_at_lem i b m e s t h = eqb-true (at i b s t) 0 (every_at _ (m - s) t (every_at _ m s e (omega arith)) (omega arith))

  at_passes : (i b m : ℕ) → Passes (numbers C) (terms (numbers C) q (monomials v D)) (point C i) b m → passes_at C v D q i b m ≡ true
  at_passes i b m p = every_of _ m (λ s h. every_of _ (m - s) (λ t k. eq-eqb (at i b s t) 0 (p s t (omega arith))))

  module _ (n : ℕ) (m : List ℕ) where
    pub passes_through : passes C n v D m q ≡ true → Through C n v D m q
    passes_through e i b hi hb = passes_at_lem i b (entry C m i b) (every_at _ C.symbols b (every_at _ n i e hi) hb)

    pub through_passes : Through C n v D m q → passes C n v D m q ≡ true
    through_passes p = every_of _ n (λ i hi. every_of _ C.symbols (λ b hb. at_passes i b (entry C m i b) (p i b hi hb)))

    -- a yes is not all zero and passes
    pub yes_means : is_yes C n v D m q ≡ true → (is_zero q ≡ false) × Through C n v D m q
    yes_means e =
        let b = both (not (is_zero q)) (passes C n v D m q) e in
        (not-true (is_zero q) b.0, passes_through b.1)

    -- and what is not and does is a yes
    pub yes_of : is_zero q ≡ false → Through C n v D m q → is_yes C n v D m q ≡ true
    yes_of nonzero p = rw (nonzero, through_passes p) refl

    -- all zeros is a no
    pub no_of_zeros : is_zero q ≡ true → false ≡ is_yes C n v D m q
    no_of_zeros e = sym (ap (λ (b : Bool). not b && passes C n v D m q) e)

    -- where it is not, whether it passes decides
    pub passing_decides : is_zero q ≡ false → passes C n v D m q ≡ is_yes C n v D m q
    passing_decides e = sym (ap (λ (b : Bool). not b && passes C n v D m q) e)
