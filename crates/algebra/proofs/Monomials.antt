-- A list of coefficients stands for a polynomial of weighted degree at most D, whatever v is.
-- Assumes nothing.
use mathlib.Core.List.{List, [], ◌∷◌}
use Prim.Native.Nat.{ℕ, ◌+◌, ◌-◌, ◌*◌, ◌/◌, ◌≤◌}
use native.Mathlib.Omega.{arith}
use Rattle.definitions.proofs.Monomials.{power_within}
use Rattle.definitions.specs.Field.{Ops}
use Rattle.definitions.specs.Polynomial.{terms, monomials_of, monomials}
use Rattle.definitions.specs.Tools.{below}
use Rattle.algebra.proofs.Composition.{DegreeAtMost}
use Rattle.algebra.proofs.Every.{All, all_map, all_flat_map, all_below}

-- those of one weighted degree
monomials_of_degree : (v w D : ℕ) → w ≤ D → All (λ (m : ℕ × ℕ). m.0 + v * m.1 ≤ D) (monomials_of v w)
monomials_of_degree v w D h =
    all_map (λ (m : ℕ × ℕ). m.0 + v * m.1 ≤ D) (λ (b : ℕ). (w - v * b, b)) (below (w / v + 1))
    (all_below (λ b. w - v * b + v * b ≤ D) (w / v + 1) (λ b k. let l : b ≤ w / v = omega arith in let e = power_within v w b l in omega arith))

-- those of all
monomials_degree : (v D : ℕ) → All (λ (m : ℕ × ℕ). m.0 + v * m.1 ≤ D) (monomials v D)
monomials_degree v D =
    all_flat_map (λ (m : ℕ × ℕ). m.0 + v * m.1 ≤ D) (monomials_of v) (below (D + 1))
    (all_below (λ w. All (λ (m : ℕ × ℕ). m.0 + v * m.1 ≤ D) (monomials_of v w)) (D + 1) (λ w k. monomials_of_degree v w D (omega arith)))

module _ (A : Ops) where
  open A use {K}

  -- so of the terms that are made of them
  terms_degree : (v D : ℕ) (q : List K) (l : List (ℕ × ℕ)) → All (λ (m : ℕ × ℕ). m.0 + v * m.1 ≤ D) l → DegreeAtMost A v D (terms A q l)
  unfolding terms
  terms_degree v D [] l h = tt
  terms_degree v D (c ∷ q) [] h = tt
  terms_degree v D (c ∷ q) (m ∷ l) h = (h.0, terms_degree v D q l h.1)

  -- the polynomial of a list of coefficients has weighted degree at most D
  pub list_degree : (v D : ℕ) (q : List K) → DegreeAtMost A v D (terms A q (monomials v D))
  list_degree v D q = terms_degree v D q (monomials v D) (monomials_degree v D)
