-- y-roots of document 01: Q(x, f(x)) as a list of coefficients, and the roots as a part of all messages.
-- Assumes nothing.
use Rattle.std.specs.Prelude.{Bool, List, [], ◌∷◌, ℕ, zero, suc, ◌-◌}
use Rattle.definitions.specs.Code.{messages}
use Rattle.definitions.specs.Field.{Ops, Code, numbers}
use Rattle.definitions.specs.Polynomial.{Term, terms, monomials, is_zero}
use Rattle.definitions.specs.Tools.{select}

module _ (A : Ops) where
  open A use {K, o, i, add as ◌⊕◌, mul as ◌⊗◌}

  infixl 60 ◌⊕◌
  infixl 70 ◌⊗◌
  -- sum, multiple, product and power of polynomials in x, lowest coefficient first
  unfoldable pub plus : List K → List K → List K
  plus [] q = q
  plus (c ∷ p) [] = c ∷ p
  plus (c ∷ p) (d ∷ q) = (c ⊕ d) ∷ plus p q

  unfoldable pub scaled : K → List K → List K
  scaled c [] = []
  scaled c (d ∷ q) = (c ⊗ d) ∷ scaled c q

  unfoldable pub times : List K → List K → List K
  times [] q = []
  times (c ∷ p) q = plus (scaled c q) (o ∷ times p q)

  unfoldable pub powers : List K → ℕ → List K
  powers p zero = i ∷ []
  powers p (suc n) = times p (powers p n)

  -- Q(x, f(x)): the sum of c x^a f(x)^b over the terms
  unfoldable pub compose : List K → List (Term A) → List K
  compose f [] = []
  compose f (m ∷ q) = plus (scaled m.0 (times (powers (o ∷ i ∷ []) m.1) (powers f m.2))) (compose f q)

-- "Q(x, f(x)) identically zero"
abbrev pub is_root : Code → ℕ → ℕ → List ℕ → List ℕ → Bool
is_root C v D q f = is_zero (compose (numbers C) f (terms (numbers C) q (monomials v D)))

-- "all messages of k symbols with Q(x, f(x)) identically zero, each once"
abbrev pub roots_of : Code → ℕ → ℕ → List ℕ → List (List ℕ)
roots_of C D k q = select (is_root C (k - 1) D q) (messages C k)
