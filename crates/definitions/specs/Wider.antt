-- Document 02, order 9: "More rows for the same polynomial", the wider list.
-- Assumes nothing.
use Rattle.std.specs.Prelude.{List, ◌≡◌, ℕ, ◌-◌, length, get_or}
use Rattle.definitions.specs.Answers.{Answer, refused, rows_onto, scores_onto}
use Rattle.definitions.specs.Bound.{bound}
use Rattle.definitions.specs.Editing.{held_list_table}
use Rattle.definitions.specs.Field.{Code}
use Rattle.definitions.specs.Held.{Held, bytes_of}
use Rattle.definitions.specs.Listing.{above}
use Rattle.definitions.specs.Polynomial.{weighted, monomials, leading, Interpolates}
use Rattle.definitions.specs.Refusals.{Line, tried, list_table, read_table}
use Rattle.definitions.specs.Weights.{matrix, cost}

-- a polynomial's "own weighted degree", that of its leading monomial: of degree limit D and coefficients q
abbrev pub degree_of : ℕ → ℕ → List ℕ → ℕ
degree_of v D q = weighted v (get_or (monomials v D) (leading q) (0, 0))

-- "with d reported"
abbrev pub widened : ℕ → ℕ → Answer
widened rows d = record { number = 0; place = 0; count = rows; value = d; cost = 0; bound = 0 }

module _ (C : Code) where
  -- "all messages with score greater than d, in the same order", and d: the answer and the memory after a call, with rows and scores before it
  pub record WiderList (n k : ℕ) (m : List ℕ) (d : ℕ) (rows scores : List ℕ) (answer : Answer) (rows_after scores_after : List ℕ) : Type 0 where
    pub answered : answer ≡ widened (length (above C n k m d)) d
    pub rows_are : rows_after ≡ rows_onto k (above C n k m d) rows
    pub scores_are : scores_after ≡ scores_onto C n m (above C n k m d) scores

  -- "Our polynomial's own weighted degree d": q is the polynomial that interpolation answers
  abbrev pub Widened : ℕ → ℕ → List ℕ → List ℕ → List ℕ → Answer → List ℕ → List ℕ → Type 0
  Widened n k m rows scores answer rows_after scores_after =
      (q : List ℕ) × Interpolates C n (k - 1) (bound (k - 1) (cost m)) m q
      × WiderList n k m (degree_of (k - 1) (bound (k - 1) (cost m)) q) rows scores answer rows_after scores_after

  -- refused as the list of the same input is, and then no lent memory changes
  abbrev pub WiderBy : List Line → ℕ → ℕ → List ℕ → List ℕ → List ℕ → Answer → List ℕ → List ℕ → Type 0
  WiderBy table n k m rows scores answer rows_after scores_after =
      tried table (λ number place. (answer ≡ refused number place) × (rows_after ≡ rows) × (scores_after ≡ scores))
      (Widened n k m rows scores answer rows_after scores_after)

  abbrev pub WiderAnswers : ℕ → ℕ → ℕ → List ℕ → List ℕ → List ℕ → Answer → List ℕ → List ℕ → Type 0
  WiderAnswers n k G m rows scores = WiderBy (list_table C n k G m (length rows) (length scores)) n k m rows scores

  abbrev pub WiderReadAnswers : ℕ → ℕ → ℕ → ℕ → List ℕ → List ℕ → List ℕ → Answer → List ℕ → List ℕ → Type 0
  WiderReadAnswers n k L G r rows scores = WiderBy (read_table C n k L G r (length rows) (length scores)) n k (matrix L r) rows scores

  -- of a matrix that is held in a record
  abbrev pub HeldWiderAnswers : Held → ℕ → ℕ → List ℕ → List ℕ → Answer → List ℕ → List ℕ → Type 0
  HeldWiderAnswers h k G rows scores =
      WiderBy (held_list_table C h k G (length rows) (length scores)) h.n k (bytes_of C h) rows scores
