-- The polynomial of document 01: monomial order, Hasse derivatives, passing, and the one that interpolates.
-- Assumes nothing.
use Rattle.std.specs.Prelude.{Bool, true, false, cond, ◌&&◌, ◌≡◌, ℕ, zero, suc, ◌+◌, ◌-◌, ◌*◌, ◌/◌, ◌%◌, ◌≤◌, ◌<◌, eqb, length, get_or}
use mathlib.Core.List.{List, [], ◌∷◌, map, flat_map}
use Rattle.definitions.specs.Bound.{count}
use Rattle.definitions.specs.Code.{Symbols, point}
use Rattle.definitions.specs.Field.{Ops, Code, numbers, power}
use Rattle.definitions.specs.Tools.{below}
use Rattle.definitions.specs.Weights.{entry}

-- "The weighted degree of x^a y^b is a + vb": x^a y^b is (a, b)
abbrev pub weighted : ℕ → ℕ × ℕ → ℕ
weighted v m = m.0 + v * m.1

-- "ordered by weighted degree, then by the power of y, lower first": those of weighted degree w
abbrev pub monomials_of : ℕ → ℕ → List (ℕ × ℕ)
monomials_of v w = map (λ (b : ℕ). (w - v * b, b)) (below (w / v + 1))

-- all of weighted degree at most D
abbrev pub monomials : ℕ → ℕ → List (ℕ × ℕ)
monomials v D = flat_map (monomials_of v) (below (D + 1))

-- the binomial coefficient of n over k
unfoldable pub binomial : ℕ → ℕ → ℕ
binomial n zero = 1
binomial zero (suc k) = 0
binomial (suc n) (suc k) = binomial n k + binomial n (suc k)

module _ (A : Ops) where
  open A use {K, o, i, add as ◌⊕◌, mul as ◌⊗◌}

  infixl 60 ◌⊕◌
  infixl 70 ◌⊗◌
  -- a term c x^a y^b
  abbrev pub Term : Type 0
  Term = K × ℕ × ℕ

  -- "the list of its N(D) coefficients in that order": coefficients and monomials, as terms
  unfoldable pub terms : List K → List (ℕ × ℕ) → List Term
  terms [] l = []
  terms (c ∷ q) [] = []
  terms (c ∷ q) (m ∷ l) = (c, m.0, m.1) ∷ terms q l

  -- "binomials count modulo 2"
  unfoldable pub modulo2 : ℕ → K
  modulo2 n = cond (eqb (n % 2) 1) i o

  -- the Hasse derivative of order s of x^a, at x
  unfoldable pub derivative : ℕ → ℕ → K → K
  derivative a s x = modulo2 (binomial a s) ⊗ power A x (a - s)

  -- "Hasse derivative (formula (6) of 004)" of order (s, t), at (x, y)
  unfoldable pub hasse : List Term → ℕ → ℕ → K → K → K
  hasse [] s t x y = o
  hasse (m ∷ q) s t x y = m.0 ⊗ derivative m.1 s x ⊗ derivative m.2 t y ⊕ hasse q s t x y

  -- "passes through (xᵢ, b) with multiplicity m when every Hasse derivative .. of order a + c < m is zero there"
  abbrev pub Passes : List Term → K → K → ℕ → Type 0
  Passes q x y m = (s t : ℕ) → s + t < m → hasse q s t x y ≡ o

-- the polynomial of weights 1 and v, degree limit D and coefficients q passes through every point as often as the matrix says
abbrev pub Through : Code → ℕ → ℕ → ℕ → List ℕ → List ℕ → Type 0
Through C n v D m q =
    (i b : ℕ) → i < n → b < C.symbols → Passes (numbers C) (terms (numbers C) q (monomials v D)) (point C i) b (entry C m i b)

-- every coefficient is zero
unfoldable pub is_zero : List ℕ → Bool
is_zero [] = true
is_zero (c ∷ q) = eqb c 0 && is_zero q

-- the place of the leading monomial: the last whose coefficient is not zero
unfoldable pub leading : List ℕ → ℕ
leading [] = 0
leading (c ∷ q) = cond (is_zero q) 0 (suc (leading q))

-- "the nonzero polynomial that passes through every point of the matrix so, has the smallest leading monomial in that order, and leading
-- coefficient 1"; it has N(D) coefficients
pub record Interpolates (C : Code) (n v D : ℕ) (m q : List ℕ) : Type 0 where
  pub size : length q ≡ count v D
  pub symbols : Symbols C q
  pub through : Through C n v D m q
  pub nonzero : is_zero q ≡ false
  pub leads : get_or q (leading q) 0 ≡ 1
  pub least : (p : List ℕ) → length p ≡ count v D → Symbols C p → Through C n v D m p → is_zero p ≡ false → leading q ≤ leading p
