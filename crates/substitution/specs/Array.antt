-- What the functions over an array promise: the columns' shift in place, substitution column by column, and stripping.
-- Assumes nothing.
use Rattle.std.specs.Prelude.{Bool, not, List, [], ◌≡◌, ℕ, ◌+◌, ◌-◌, ◌*◌, ◌≤◌, ◌<◌, eqb, get_or}
use Rattle.alphabet.specs.Codes.{code_on}
use Rattle.alphabet.specs.declared.Alphabet.{Alphabet}
use Rattle.definitions.specs.Code.{Symbols}
use Rattle.definitions.specs.Field.{Code, numbers}
use Rattle.definitions.specs.Limits.{greatest_count}
use Rattle.root_tree.specs.Columns.{coefficient, shift, substitute, columns}
use Rattle.root_tree.specs.Fold.{folded}
use Rattle.root_tree.specs.Tree.{Same, strip, constants_zero}

-- the places of a polynomial's array: of w columns of height h, which are at most twice as many as its coefficients
abbrev pub places : ℕ
places = 2 * greatest_count

-- r is l with entry t of the column at x^(a + t) y^t, for t below b
pub record Laid (h w a b : ℕ) (column l r : List ℕ) : Type 0 where
  pub hit : (t : ℕ) → t < b → a + t < w → get_or r ((a + t) * h + t) 0 ≡ get_or column t 0
  pub miss : (s t : ℕ) → s < w → t < h → (t < b → s ≡ a + t → ⊥) → get_or r (s * h + t) 0 ≡ get_or l (s * h + t) 0

-- r is l with x y put for y, of the first n columns and as far as w columns go
pub record Spread (h w n : ℕ) (l r : List ℕ) : Type 0 where
  pub there : (s t : ℕ) → s < w → t < h → t ≤ s → s - t < n → get_or r (s * h + t) 0 ≡ get_or l ((s - t) * h + t) 0
  pub rest : (s t : ℕ) → s < w → t < h → (t ≤ s → s - t < n → ⊥) → get_or r (s * h + t) 0 ≡ 0

-- an entry other than zero
abbrev pub is_other : List ℕ → ℕ → Bool
is_other l i = not (eqb (get_or l i 0) 0)

-- of either alphabet: what was symbols is symbols
abbrev pub SymbolsKept : List ℕ → List ℕ → Type 0
SymbolsKept l r = (w : Alphabet) → Symbols (code_on w) l → Symbols (code_on w) r

-- and a column laid over l
abbrev pub SymbolsLaid : List ℕ → List ℕ → List ℕ → Type 0
SymbolsLaid column l r = (w : Alphabet) → Symbols (code_on w) column → Symbols (code_on w) l → Symbols (code_on w) r

module _ (C : Code) where
  -- r is l with c times entry `from` added to entry `to`, in the first n columns
  pub record Added (h w n to from c : ℕ) (l r : List ℕ) : Type 0 where
    pub hit : (a : ℕ) → a < n → get_or r (a * h + to) 0 ≡ C.plus (get_or l (a * h + to) 0) (C.times c (get_or l (a * h + from) 0))
    pub miss : (a t : ℕ) → a < w → t < h → (a < n → t ≡ to → ⊥) → get_or r (a * h + t) 0 ≡ get_or l (a * h + t) 0

  -- the columns of an array, w of height h
  abbrev pub polynomial : ℕ → ℕ → List ℕ → List (List ℕ)
  polynomial h w l = columns (numbers C) h w l

  -- each column of r is that of l, folded
  abbrev pub Folded : ℕ → ℕ → ℕ → ℕ → List ℕ → List ℕ → Type 0
  Folded h w bit c l r =
      (a t : ℕ) → a < w → coefficient (numbers C) (polynomial h w r) a t ≡ folded (numbers C) bit c (coefficient (numbers C) (polynomial h w l) a) t

  -- each column of r is that of l, with y + c put for y
  abbrev pub Shifted : ℕ → ℕ → ℕ → List ℕ → List ℕ → Type 0
  Shifted h w c l r =
      (a t : ℕ) → a < w → t < h → coefficient (numbers C) (polynomial h w r) a t ≡ get_or (shift (numbers C) c (get_or (polynomial h w l) a [])) t 0

  -- r holds M(x, x y + c) of the array l, as far as w columns go
  abbrev pub Substituted : ℕ → ℕ → ℕ → List ℕ → List ℕ → Type 0
  Substituted h w c l r = (s t : ℕ) → s < w → t < h → get_or r (s * h + t) 0 ≡ coefficient (numbers C) (substitute (numbers C) c (polynomial h w l)) s t

  -- r is the array l freed of its powers of x
  abbrev pub Freed : ℕ → ℕ → List ℕ → List ℕ → Type 0
  Freed h w l r = Same C (polynomial h w r) (strip (polynomial h w l))

  -- r is what the search hands on after the symbol c
  abbrev pub Handed : ℕ → ℕ → ℕ → List ℕ → List ℕ → Type 0
  Handed h w c l r = (x : List ℕ) × Symbols C x × Substituted h w c l x × Freed h w x r

-- r is the array l freed of its powers of x, whichever alphabet its entries are of
abbrev pub FreedOfEither : ℕ → ℕ → List ℕ → List ℕ → Type 0
FreedOfEither h w l r = (c : Alphabet) → Freed (code_on c) h w l r

-- b tells whether every coefficient of y^0 is zero
abbrev pub ConstantsZero : ℕ → ℕ → List ℕ → Bool → Type 0
ConstantsZero h w l b = (c : Alphabet) → b ≡ constants_zero (polynomial (code_on c) h w l)
