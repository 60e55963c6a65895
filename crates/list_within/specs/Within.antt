-- What the inner list leaves, of a matrix held by value.
-- Assumes nothing.
use Rattle.std.specs.Prelude.{false, List, [], ◌≡◌, ℕ, ◌*◌, ◌-◌, ◌/◌, ◌≤◌, ◌<◌, ltb, length}
use Rattle.definitions.specs.Answers.{Answer, refused, counted, rows_onto, scores_onto}
use Rattle.definitions.specs.Bound.{count}
use Rattle.definitions.specs.Code.{Symbols}
use Rattle.definitions.specs.Field.{Code}
use Rattle.definitions.specs.Limits.{greatest_limit, greatest_count, greatest_rows}
use Rattle.definitions.specs.Listing.{falling_onto, list_of}
use Rattle.definitions.specs.Polynomial.{is_zero}
use Rattle.definitions.specs.Refusals.{Line, tried}
use Rattle.definitions.specs.Roots.{roots_of}
use Rattle.definitions.specs.Tools.{select}
use Rattle.definitions.specs.Weights.{score}
use Rattle.matrix.specs.Columns.{matrix_of}

module _ (C : Code) where
  -- the matrix was loaded from the bytes of n positions
  abbrev pub Loaded : List (List ℕ) → ℕ → Type 0
  Loaded a n = (m : List ℕ) × (length m ≡ C.symbols * n) × (a ≡ matrix_of C m n)

  -- rows that are listed: how many, never more than the lent memory takes, and the memory after
  pub record Lists (n k : ℕ) (m : List ℕ) (listed : List (List ℕ)) (rows scores : List ℕ) (count : ℕ) (rows_after scores_after : List ℕ) : Type 0 where
    pub counted : count ≡ length listed
    pub few : count ≤ greatest_rows
    pub rows_are : rows_after ≡ rows_onto k listed rows
    pub scores_are : scores_after ≡ scores_onto C n m listed scores

  -- the y-roots whose score is greater than t, by falling score
  abbrev pub roots_above : ℕ → ℕ → List ℕ → ℕ → List ℕ → ℕ → List (List ℕ)
  roots_above n k m D q t = falling_onto (score C n m) [] (select (λ (f : List ℕ). ltb t (score C n m f)) (roots_of C D k q))

  -- what lists them, of any polynomial
  pub record Rooted (n k D t : ℕ) (q : List ℕ) : Type 0 where
    pub sized : (2 ≤ k) × (k ≤ n) × (n ≤ C.positions)
    pub few : count (k - 1) D ≤ greatest_count
    pub low : D / (k - 1) ≤ greatest_rows
    pub threshold : t < 65536
    pub full : length q ≡ count (k - 1) D
    pub symbols : Symbols C q
    pub nonzero : is_zero q ≡ false

  abbrev pub RootsOf : List (List ℕ) → ℕ → ℕ → ℕ → List ℕ → ℕ → List ℕ → List ℕ → ℕ → List ℕ → List ℕ → Type 0
  RootsOf a n k D q t rows scores count rows_after scores_after =
      (m : List ℕ) → length m ≡ C.symbols * n → a ≡ matrix_of C m n → Lists n k m (roots_above n k m D q t) rows scores count rows_after scores_after

  -- the list of the bytes that the matrix was loaded from
  abbrev pub ListsOf : List (List ℕ) → ℕ → ℕ → List ℕ → List ℕ → ℕ → List ℕ → List ℕ → Type 0
  ListsOf a n k rows scores count rows_after scores_after =
      (m : List ℕ) → length m ≡ C.symbols * n → a ≡ matrix_of C m n → Lists n k m (list_of C n k m) rows scores count rows_after scores_after

  -- what a table makes of the list: the answer and both memories, refused or listed
  abbrev pub Answered : List Line → ℕ → ℕ → List ℕ → List ℕ → List ℕ → Answer → List ℕ → List ℕ → Type 0
  Answered table n k m rows scores answer rows_after scores_after =
      (answer ≡ tried table refused (counted (length (list_of C n k m))))
      × ((rows_after ≡ tried table (λ _ _. rows) (rows_onto k (list_of C n k m) rows))
      × ((scores_after ≡ tried table (λ _ _. scores) (scores_onto C n m (list_of C n k m) scores)) × (answer.count ≤ greatest_rows)))

  -- what a call has that passed the checks before the cost
  pub record Fit (n k G rows scores : ℕ) : Type 0 where
    pub sized : (2 ≤ k) × (k ≤ n) × (n ≤ C.positions)
    pub low : G ≤ greatest_limit
    pub room_for_rows : greatest_rows * k ≤ rows
    pub room_for_scores : greatest_rows ≤ scores
