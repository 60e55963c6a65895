-- The search of Roth and Ruckenstein over columns, as a defined tree: its rows, and how many prefixes it comes to.
-- Assumes nothing.
use Rattle.std.specs.Prelude.{Bool, true, cond, ◌&&◌, ◌≡◌, ℕ, zero, suc, ◌+◌, ◌*◌, ◌/◌, ◌<◌, eqb, get_or, replicate}
use mathlib.Core.List.{List, [], ◌∷◌, map, flat_map}
use Rattle.definitions.specs.Field.{Code, numbers, value}
use Rattle.definitions.specs.Polynomial.{monomials, is_zero}
use Rattle.definitions.specs.Tools.{below, sum}
use Rattle.root_tree.specs.Columns.{coefficient, first, substitute, columns, loaded}

-- n zeros
unfoldable pub zeros : ℕ → List ℕ
zeros n = replicate n 0

-- M freed of its powers of x
unfoldable pub strip : List (List ℕ) → List (List ℕ)
strip [] = []
strip (p ∷ M) = cond (is_zero p) (strip M) (p ∷ M)

-- M(x, 0) is zero
unfoldable pub constants_zero : List (List ℕ) → Bool
constants_zero [] = true
constants_zero (p ∷ M) = eqb (get_or p 0 0) 0 && constants_zero M

module _ (C : Code) where
  -- the same coefficients
  abbrev pub Same : List (List ℕ) → List (List ℕ) → Type 0
  Same M L = (s t : ℕ) → coefficient (numbers C) M s t ≡ coefficient (numbers C) L s t

  -- the weighted degree, of weights 1 and v, is at most D
  abbrev pub Under : ℕ → ℕ → List (List ℕ) → Type 0
  Under v D M = (s t : ℕ) → D < s + v * t → coefficient (numbers C) M s t ≡ 0

  -- M(0, c) is zero
  unfoldable pub begins : ℕ → List (List ℕ) → Bool
  begins c M = eqb (value (numbers C) c (first (numbers C) M)) 0

  -- what is handed to the next level: M(x, x y + c), freed of its powers of x
  abbrev pub next : ℕ → List (List ℕ) → List (List ℕ)
  next c M = strip (substitute (numbers C) c M)

  -- "The search .. fixes one message symbol at each level and goes on with the levels left"
  unfoldable pub search : ℕ → List (List ℕ) → List (List ℕ)
  search zero M = cond (constants_zero M) ([] ∷ []) []
  search (suc k) M = flat_map (λ (c : ℕ). cond (begins c M) (map (λ (f : List ℕ). c ∷ f) (search k (next c M))) []) (below C.symbols)

  -- the prefixes of k symbols that it comes to
  unfoldable pub prefixes : ℕ → List (List ℕ) → ℕ
  prefixes zero M = 1
  prefixes (suc k) M = sum C.symbols (λ (c : ℕ). cond (begins c M) (prefixes k (next c M)) 0)

  -- and those of 1 to k symbols
  unfoldable pub all_prefixes : ℕ → List (List ℕ) → ℕ
  all_prefixes zero M = 0
  all_prefixes (suc k) M = sum C.symbols (λ (c : ℕ). cond (begins c M) (suc (all_prefixes k (next c M))) 0)

  -- the polynomial of weights 1 and v, degree limit D and coefficients q, as the columns of an array of n entries
  abbrev pub grid : ℕ → ℕ → ℕ → List ℕ → List (List ℕ)
  grid n v D q = columns (numbers C) (D / v + 1) (D + 1) (loaded (numbers C) (D / v + 1) q (monomials v D) (zeros n))
