-- What the desk can rely on, as one statement of the definitions: the list, clean tags and worn ones, and what a row is to a polynomial.
-- Assumes nothing.
use Rattle.std.specs.Prelude.{true, false, ◌≡◌, ℕ, ◌+◌, ◌-◌, ◌*◌, ◌/◌, ◌≤◌, ◌<◌, length, get_or, take, drop}
use mathlib.Core.List.{List, [], ◌∷◌, ◌++◌, Memᴰ}
use Rattle.audit.specs.Factors.{Divides}
use Rattle.audit.specs.Marks.{weights_of, matrix_of, erased, wrong}
use Rattle.audit.specs.Words.{Message, differing}
use Rattle.definitions.specs.Answers.{counted, rows_onto, scores_onto, read_answer, read_rows, read_scores}
use Rattle.definitions.specs.Bound.{count, bound}
use Rattle.definitions.specs.Code.{Symbols, codeword}
use Rattle.definitions.specs.Field.{Code, sixteen}
use Rattle.definitions.specs.Limits.{greatest_level, greatest_limit, greatest_rows}
use Rattle.definitions.specs.Listing.{list_of}
use Rattle.definitions.specs.Polynomial.{monomials, Through, is_zero, leading, Interpolates}
use Rattle.definitions.specs.Roots.{is_root}
use Rattle.definitions.specs.Weights.{entry_cost, cost, score}

-- the sizes that are not refused
abbrev pub Sizes : Code → ℕ → ℕ → Type 0
Sizes C n k = (2 ≤ k) × (k ≤ n) × (n ≤ C.positions)

-- "ordered by f₀, then f₁ and so on, smaller symbol first": at the first place where they differ f has the smaller symbol
pub record Earlier (f g : List ℕ) : Type 0 where
  pub place : ℕ
  pub alike : (j : ℕ) → j < place → get_or f j 0 ≡ get_or g j 0
  pub smaller : get_or f place 0 < get_or g place 0

-- demand 3, of any matrix
pub record Exactly (C : Code) (n k : ℕ) (m : List ℕ) : Type 0 where
  -- every message whose score is above the bound is in the list, and no other
  pub every : (f : List ℕ) → Message C k f → bound (k - 1) (cost m) < score C n m f → Memᴰ f (list_of C n k m)
  pub only : (f : List ℕ) → Memᴰ f (list_of C n k m) → Message C k f × (bound (k - 1) (cost m) < score C n m f)
  -- each once
  pub once : (i j : ℕ) → i < length (list_of C n k m) → j < length (list_of C n k m) → get_or (list_of C n k m) i [] ≡ get_or (list_of C n k m) j [] → i ≡ j
  -- by falling score, ties by message
  pub falling : (i j : ℕ) → i < j → j < length (list_of C n k m) → score C n m (get_or (list_of C n k m) j []) ≤ score C n m (get_or (list_of C n k m) i [])
  pub ties : (i j : ℕ) → i < j → j < length (list_of C n k m) → score C n m (get_or (list_of C n k m) i []) ≡ score C n m (get_or (list_of C n k m) j [])
      → Earlier (get_or (list_of C n k m) i []) (get_or (list_of C n k m) j [])
  -- there are no more rows than powers of y within the bound, so with a cost within the limit no more than the greatest number
  pub few : length (list_of C n k m) ≤ bound (k - 1) (cost m) / (k - 1)
  pub room : cost m ≤ greatest_limit → length (list_of C n k m) ≤ greatest_rows
  -- and each is a y-root of every polynomial within the bound that passes, whoever made it
  pub roots : (f : List ℕ) → Memᴰ f (list_of C n k m) → (D : ℕ) (q : List ℕ) → D ≤ bound (k - 1) (cost m) → Symbols C q
      → Through C n (k - 1) D m q → is_root C (k - 1) D q f ≡ true

-- a clean tag: all weight on the symbols of one codeword
pub record Clean (C : Code) (n k L : ℕ) (f : List ℕ) : Type 0 where
  -- the list is that message, its score is L for each mark
  pub alone : list_of C n k (matrix_of C L (codeword C n f)) ≡ f ∷ []
  pub full : score C n (matrix_of C L (codeword C n f)) f ≡ n * L
  pub price : cost (matrix_of C L (codeword C n f)) ≡ n * entry_cost L

-- the message stands first, and every other row scores at least L less
pub record First (C : Code) (n k L : ℕ) (f word : List ℕ) : Type 0 where
  pub rest : List (List ℕ)
  pub first : list_of C n k (matrix_of C L word) ≡ f ∷ rest
  pub leads : (g : List ℕ) → Memᴰ g rest → score C n (matrix_of C L word) g + L ≤ score C n (matrix_of C L word) f

-- the call that lists a tag's weights answers the rows, with their scores, and nothing else changes
pub record Answered (C : Code) (n k L G : ℕ) (word rows scores : List ℕ) (l : List (List ℕ)) : Type 0 where
  pub answer : read_answer C n k L G (weights_of C word) rows scores ≡ counted (length l)
  pub rows_are : read_rows C n k L G (weights_of C word) rows scores ≡ rows_onto k l rows
  pub scores_are : read_scores C n k L G (weights_of C word) rows scores ≡ scores_onto C n (matrix_of C L word) l scores

pub record Desk (C : Code) : Type 0 where
  pub exactly : (n k : ℕ) (m : List ℕ) → Sizes C n k → length m ≡ C.symbols * n → Exactly C n k m
  -- a clean tag, at every level
  pub clean : (n k L : ℕ) (f : List ℕ) → Sizes C n k → 1 ≤ L → Message C k f → Clean C n k L f
  -- single symbols, of which no more than half of n - k are wrong
  pub half : (n k L : ℕ) (f word : List ℕ) → Sizes C n k → 1 ≤ L → Message C k f → Message C n word
      → differing n word (codeword C n f) ≤ (n - k) / 2 → First C n k L f word
  -- an erased mark counts for half a wrong one
  pub worn : (n k L : ℕ) (f word : List ℕ) → Sizes C n k → 1 ≤ L → Message C k f → length word ≡ n
      → 2 * wrong C n word (codeword C n f) + erased C n word ≤ n - k → First C n k L f word
  -- such a tag is answered by its list, unless its cost is above the limit
  pub answered : (n k L G : ℕ) (word rows scores : List ℕ) → Sizes C n k → (1 ≤ L) × (L ≤ greatest_level) → G ≤ greatest_limit → length word ≡ n
      → greatest_rows * k ≤ length rows → greatest_rows ≤ length scores → cost (matrix_of C L word) ≤ G
      → Answered C n k L G word rows scores (list_of C n k (matrix_of C L word))
  -- and a clean tag by its message and its score
  pub clean_answered : (n k L G : ℕ) (f rows scores : List ℕ) → Sizes C n k → (1 ≤ L) × (L ≤ greatest_level) → G ≤ greatest_limit → Message C k f
      → greatest_rows * k ≤ length rows → greatest_rows ≤ length scores → n * entry_cost L ≤ G
      → (read_answer C n k L G (weights_of C (codeword C n f)) rows scores ≡ counted 1)
      × (read_rows C n k L G (weights_of C (codeword C n f)) rows scores ≡ f ++ drop k rows)
      × (read_scores C n k L G (weights_of C (codeword C n f)) rows scores ≡ n * L ∷ drop 1 scores)
  -- "Q(x, f(x)) identically zero" says that y - f(x) divides Q
  pub root_is_factor : (v D : ℕ) (q f : List ℕ) → Symbols C q → Symbols C f → is_root C v D q f ≡ true → Divides C v D q f
  pub factor_is_root : (v D : ℕ) (q f : List ℕ) → Symbols C q → Symbols C f → Divides C v D q f → is_root C v D q f ≡ true
  -- the monomials of a lower degree limit begin those of a higher one
  pub begins : (v D E : ℕ) → 1 ≤ v → D ≤ E → take (count v D) (monomials v E) ≡ monomials v D
  -- and no nonzero polynomial that passes, of whatever degree limit, has an earlier leading monomial than the one that interpolates
  pub smallest : (n v D E : ℕ) (m q p : List ℕ) → 1 ≤ v → Interpolates C n v D m q → length p ≡ count v E → Symbols C p → Through C n v E m p
      → is_zero p ≡ false → leading q ≤ leading p

pub record DeskOfSixteen : Type 0 where
  pub laws : Desk sixteen
  -- at the greatest limit no tag of single symbols is too dear
  pub affordable : (n L : ℕ) (word : List ℕ) → n ≤ sixteen.positions → L ≤ greatest_level → length word ≡ n → cost (matrix_of sixteen L word) ≤ greatest_limit
