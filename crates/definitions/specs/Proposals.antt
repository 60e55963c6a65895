-- Document 02, order 8: "Somebody else's polynomial", its check, and the list that is made from it.
-- Assumes nothing.
use Rattle.std.specs.Prelude.{Bool, cond, not, ◌&&◌, List, [], ◌∷◌, ℕ, ◌-◌, ◌*◌, eqb, ltb, length}
use Rattle.definitions.specs.Answers.{Answer, refused, valued, counted, rows_onto, scores_onto}
use Rattle.definitions.specs.Bound.{count, bound}
use Rattle.definitions.specs.Code.{point}
use Rattle.definitions.specs.Editing.{stored}
use Rattle.definitions.specs.Field.{Code, numbers}
use Rattle.definitions.specs.Held.{Held, bytes_of}
use Rattle.definitions.specs.Limits.{greatest_rows}
use Rattle.definitions.specs.Listing.{list_of}
use Rattle.definitions.specs.Polynomial.{terms, monomials, hasse, is_zero}
use Rattle.definitions.specs.Refusals.{Line, tried, line, sizes, limit, degree, entries, room, entries_of, symbols, runs_on, cost_within}
use Rattle.definitions.specs.Tools.{every}
use Rattle.definitions.specs.Weights.{entry, cost}

-- "a D above the bound is refusal 2, tried after 7"
abbrev pub within_bound : ℕ → List ℕ → ℕ → Line
within_bound v m D = line 2 (ltb (bound v (cost m)) D)

module _ (C : Code) where
  -- "It passes through (xᵢ, b) with multiplicity m when every Hasse derivative .. of order a + c < m is zero there", as a test of the
  -- polynomial of weights 1 and v, degree limit D and coefficients q
  abbrev pub passes_at : ℕ → ℕ → List ℕ → ℕ → ℕ → ℕ → Bool
  passes_at v D q i b m =
      every m (λ (s : ℕ). every (m - s) (λ (t : ℕ). eqb (hasse (numbers C) (terms (numbers C) q (monomials v D)) s t (point C i) b) 0))

  -- it "passes through every point with its multiplicity"
  abbrev pub passes : ℕ → ℕ → ℕ → List ℕ → List ℕ → Bool
  passes n v D m q = every n (λ (i : ℕ). every C.symbols (λ (b : ℕ). passes_at v D q i b (entry C m i b)))

  -- "yes exactly when it is not all zero and passes"
  abbrev pub is_yes : ℕ → ℕ → ℕ → List ℕ → List ℕ → Bool
  is_yes n v D m q = not (is_zero q) && passes n v D m q

  -- "and a no is refusal 10 proposal"
  abbrev pub proposed : ℕ → ℕ → ℕ → List ℕ → List ℕ → Line
  proposed n v D m q = line 10 (not (is_yes n v D m q))

  -- "given a matrix, any D that refusal 2 allows and N(D) coefficients": yes is the value 1, no the value 0; "a matrix comes before
  -- coefficients", whose indexes run on
  abbrev pub proposal_table : ℕ → ℕ → ℕ → List ℕ → List ℕ → List Line
  proposal_table n k D m q =
      sizes C n k ∷ degree (k - 1) D ∷ entries (count (k - 1) D) q ∷ entries (C.symbols * n) m ∷ entries_of m
      ∷ runs_on (C.symbols * n) (symbols C q) ∷ []

  abbrev pub proposal_answer : ℕ → ℕ → ℕ → List ℕ → List ℕ → Answer
  proposal_answer n k D m q = tried (proposal_table n k D m q) refused (valued (cond (is_yes n (k - 1) D m q) 1 0))

  -- "Add also a list made from a proposal": "for a yes with D at most the matrix's bound it is our list"
  abbrev pub proposal_list_table : ℕ → ℕ → ℕ → ℕ → List ℕ → List ℕ → ℕ → ℕ → List Line
  proposal_list_table n k G D m q rows scores =
      sizes C n k ∷ limit G ∷ degree (k - 1) D ∷ entries (count (k - 1) D) q ∷ entries (C.symbols * n) m ∷ room (greatest_rows * k) rows
      ∷ room greatest_rows scores ∷ entries_of m ∷ runs_on (C.symbols * n) (symbols C q) ∷ cost_within G m ∷ within_bound (k - 1) m D
      ∷ proposed n (k - 1) D m q ∷ []

  abbrev pub proposal_list_answer : ℕ → ℕ → ℕ → ℕ → List ℕ → List ℕ → List ℕ → List ℕ → Answer
  proposal_list_answer n k G D m q rows scores =
      tried (proposal_list_table n k G D m q (length rows) (length scores)) refused (counted (length (list_of C n k m)))

  abbrev pub proposal_list_rows : ℕ → ℕ → ℕ → ℕ → List ℕ → List ℕ → List ℕ → List ℕ → List ℕ
  proposal_list_rows n k G D m q rows scores =
      tried (proposal_list_table n k G D m q (length rows) (length scores)) (λ _ _. rows) (rows_onto k (list_of C n k m) rows)

  abbrev pub proposal_list_scores : ℕ → ℕ → ℕ → ℕ → List ℕ → List ℕ → List ℕ → List ℕ → List ℕ
  proposal_list_scores n k G D m q rows scores =
      tried (proposal_list_table n k G D m q (length rows) (length scores)) (λ _ _. scores) (scores_onto C n m (list_of C n k m) scores)

  -- "Every function that takes a matrix takes the new record" (order 5): a matrix that is held in one
  abbrev pub held_proposal_table : Held → ℕ → ℕ → List ℕ → List Line
  held_proposal_table h k D q =
      sizes C h.n k ∷ degree (k - 1) D ∷ entries (count (k - 1) D) q ∷ stored C h ∷ entries_of h.entries
      ∷ runs_on (C.symbols * h.n) (symbols C q) ∷ []

  abbrev pub held_proposal_answer : Held → ℕ → ℕ → List ℕ → Answer
  held_proposal_answer h k D q = tried (held_proposal_table h k D q) refused (valued (cond (is_yes h.n (k - 1) D (bytes_of C h) q) 1 0))

  abbrev pub held_proposal_list_table : Held → ℕ → ℕ → ℕ → List ℕ → ℕ → ℕ → List Line
  held_proposal_list_table h k G D q rows scores =
      sizes C h.n k ∷ limit G ∷ degree (k - 1) D ∷ entries (count (k - 1) D) q ∷ stored C h ∷ room (greatest_rows * k) rows
      ∷ room greatest_rows scores ∷ entries_of h.entries ∷ runs_on (C.symbols * h.n) (symbols C q) ∷ cost_within G (bytes_of C h)
      ∷ within_bound (k - 1) (bytes_of C h) D ∷ proposed h.n (k - 1) D (bytes_of C h) q ∷ []

  abbrev pub held_proposal_list_answer : Held → ℕ → ℕ → ℕ → List ℕ → List ℕ → List ℕ → Answer
  held_proposal_list_answer h k G D q rows scores =
      tried (held_proposal_list_table h k G D q (length rows) (length scores)) refused (counted (length (list_of C h.n k (bytes_of C h))))

  abbrev pub held_proposal_list_rows : Held → ℕ → ℕ → ℕ → List ℕ → List ℕ → List ℕ → List ℕ
  held_proposal_list_rows h k G D q rows scores =
      tried (held_proposal_list_table h k G D q (length rows) (length scores)) (λ _ _. rows) (rows_onto k (list_of C h.n k (bytes_of C h)) rows)

  abbrev pub held_proposal_list_scores : Held → ℕ → ℕ → ℕ → List ℕ → List ℕ → List ℕ → List ℕ
  held_proposal_list_scores h k G D q rows scores =
      tried (held_proposal_list_table h k G D q (length rows) (length scores)) (λ _ _. scores)
      (scores_onto C h.n (bytes_of C h) (list_of C h.n k (bytes_of C h)) scores)
