-- Factors y - f(x) of a polynomial in x and y, coefficient by coefficient.
-- Assumes nothing.
use Rattle.std.specs.Prelude.{cond, ◌&&◌, ◌≡◌, ℕ, suc, ◌<◌, eqb}
use mathlib.Core.List.{List, [], ◌∷◌, ◌++◌, map, Memᴰ}
use Rattle.definitions.specs.Field.{Ops, Code, numbers}
use Rattle.definitions.specs.Polynomial.{Term, terms, monomials}

module _ (A : Ops) where
  open A use {K, o, add as ◌⊕◌, mul as ◌⊗◌}

  infixl 60 ◌⊕◌
  infixl 70 ◌⊗◌
  -- the coefficient of x^a y^b: those of the terms with these powers, summed
  unfoldable pub coefficient : List (Term A) → ℕ → ℕ → K
  coefficient [] a b = o
  coefficient (m ∷ q) a b = cond (eqb m.1 a && eqb m.2 b) m.0 o ⊕ coefficient q a b

  -- y times a polynomial, x times it, and c times it
  abbrev pub times_y : List (Term A) → List (Term A)
  times_y r = map (λ (m : Term A). (m.0, m.1, suc m.2)) r

  abbrev pub times_x : List (Term A) → List (Term A)
  times_x r = map (λ (m : Term A). (m.0, suc m.1, m.2)) r

  abbrev pub times_constant : K → List (Term A) → List (Term A)
  times_constant c r = map (λ (m : Term A). (c ⊗ m.0, m.1, m.2)) r

  -- f(x) times it, lowest coefficient first
  unfoldable pub times_of : List K → List (Term A) → List (Term A)
  times_of [] r = []
  times_of (c ∷ f) r = times_constant c r ++ times_of f (times_x r)

  -- y - f(x) times it: in a field of characteristic 2 that is y + f(x)
  abbrev pub times_factor : List K → List (Term A) → List (Term A)
  times_factor f r = times_y r ++ times_of f r

-- "y - f(x) divides Q": some polynomial, its coefficients symbols, times y - f(x) has the coefficients of Q
abbrev pub Divides : Code → ℕ → ℕ → List ℕ → List ℕ → Type 0
Divides C v D q f =
    (r : List (Term (numbers C))) × ((m : Term (numbers C)) → Memᴰ m r → m.0 < C.symbols)
    × ((a b : ℕ) → coefficient (numbers C) (terms (numbers C) q (monomials v D)) a b ≡ coefficient (numbers C) (times_factor (numbers C) f r) a b)
