-- "Somebody else's polynomial" (document 02, order 8): the laws of its check, and of the list that is made from it, as one statement of the
-- definitions.
-- Assumes nothing.
use Rattle.std.specs.Prelude.{true, false, List, [], ◌≢◌, ◌≡◌, ℕ, ◌-◌, ◌≤◌, ◌<◌, ltb}
use Rattle.definitions.specs.Answers.{Answer, refused, valued, list_answer, list_rows, list_scores}
use Rattle.definitions.specs.Bound.{bound}
use Rattle.definitions.specs.Code.{Symbols}
use Rattle.definitions.specs.Editing.{held_list_answer, held_list_rows, held_list_scores}
use Rattle.definitions.specs.Field.{Code}
use Rattle.definitions.specs.Held.{Held, bytes_of}
use Rattle.definitions.specs.Listing.{falling_onto, list_of}
use Rattle.definitions.specs.Polynomial.{Through, is_zero, Interpolates}
use Rattle.definitions.specs.Proposals.{is_yes, proposal_answer, proposal_list_answer, proposal_list_rows, proposal_list_scores}
use Rattle.definitions.specs.Proposals.{held_proposal_answer, held_proposal_list_answer, held_proposal_list_rows, held_proposal_list_scores}
use Rattle.definitions.specs.Roots.{roots_of}
use Rattle.definitions.specs.Tools.{select}
use Rattle.definitions.specs.Weights.{cost, score}

-- "a list made from a proposal: its roots filtered by score", those above the matrix's bound, in the list's order
abbrev pub list_from : Code → ℕ → ℕ → ℕ → List ℕ → List ℕ → List (List ℕ)
list_from C n k D m q =
    falling_onto (score C n m) [] (select (λ (f : List ℕ). ltb (bound (k - 1) (cost m)) (score C n m f)) (roots_of C D k q))

-- what a call that lists leaves: its answer, and the lent rows and scores after it
pub record Left : Type 0 where
  pub answer : Answer
  pub rows : List ℕ
  pub scores : List ℕ

abbrev pub left : Answer → List ℕ → List ℕ → Left
left answer rows scores = record { answer = answer; rows = rows; scores = scores }

-- the answer of a check, of the matrix m
pub record CheckLaws (C : Code) (n k D : ℕ) (m q : List ℕ) (check : Answer) : Type 0 where
  -- 1 is a yes, and what is accepted with 0 is a no
  pub answer_yes : check.value ≡ 1 → is_yes C n (k - 1) D m q ≡ true
  pub answer_no : check.number ≡ 0 → check.value ≡ 0 → is_yes C n (k - 1) D m q ≡ false
  pub yes_answered : check.number ≡ 0 → is_yes C n (k - 1) D m q ≡ true → check ≡ valued 1
  pub no_answered : check.number ≡ 0 → is_yes C n (k - 1) D m q ≡ false → check ≡ valued 0
  -- "all zeros is a no here and not refusal 8": what is refused is so for its sizes, its degree, its lengths or its symbols
  pub zeros_answered : check.number ≡ 0 → is_zero q ≡ true → check ≡ valued 0
  pub never : (check.number ≤ 5) × (check.number ≢ 4)

-- what the list of a proposal leaves, beside what the check of it answers and what our list of the matrix m leaves, with the same lent memory
pub record ListLaws (C : Code) (n k D : ℕ) (m q rows scores : List ℕ) (check : Answer) (ours theirs : Left) : Type 0 where
  -- "for a yes with D at most the matrix's bound it is our list, row for row, whoever proposed it"
  pub taken : theirs.answer.number ≡ 0 → theirs ≡ ours
  pub taken_is_yes : theirs.answer.number ≡ 0 → (is_yes C n (k - 1) D m q ≡ true) × (D ≤ bound (k - 1) (cost m))
  pub taken_from_roots : theirs.answer.number ≡ 0 → list_from C n k D m q ≡ list_of C n k m
  pub yes_taken : check.number ≡ 0 → ours.answer.number ≡ 0 → D ≤ bound (k - 1) (cost m) → is_yes C n (k - 1) D m q ≡ true → theirs ≡ ours
  -- "There a D above the bound is refusal 2, tried after 7"
  pub above_bound : check.number ≡ 0 → ours.answer.number ≡ 0 → bound (k - 1) (cost m) < D → theirs ≡ left (refused 2 0) rows scores
  pub cost_before : check.number ≡ 0 → ours.answer.number ≡ 7 → theirs ≡ left (refused 7 0) rows scores
  -- "and a no is refusal 10 proposal, tried last"
  pub refused_is_no : theirs.answer.number ≡ 10 → is_yes C n (k - 1) D m q ≡ false
  pub no_refused : check.number ≡ 0 → ours.answer.number ≡ 0 → D ≤ bound (k - 1) (cost m) → is_yes C n (k - 1) D m q ≡ false
      → theirs ≡ left (refused 10 0) rows scores
  -- our own polynomial, at its bound, is answered a yes, and its list is the list
  pub own_checked : ours.answer.number ≡ 0 → D ≡ bound (k - 1) (cost m) → Interpolates C n (k - 1) D m q → check ≡ valued 1
  pub own_listed : ours.answer.number ≡ 0 → D ≡ bound (k - 1) (cost m) → Interpolates C n (k - 1) D m q → theirs ≡ ours

pub record ProposalLaws (C : Code) : Type 0 where
  -- "yes exactly when it is not all zero and passes through every point with its multiplicity"
  pub yes_means : (n v D : ℕ) (m q : List ℕ) → is_yes C n v D m q ≡ true → (is_zero q ≡ false) × Through C n v D m q
  pub yes_of : (n v D : ℕ) (m q : List ℕ) → is_zero q ≡ false → Through C n v D m q → is_yes C n v D m q ≡ true
  -- so our own polynomial is a yes
  pub own_yes : (n v D : ℕ) (m q : List ℕ) → Interpolates C n v D m q → is_yes C n v D m q ≡ true
  -- the answers of the check, for bytes and for a record
  pub checked : (n k D : ℕ) (m q : List ℕ) → CheckLaws C n k D m q (proposal_answer C n k D m q)
  pub held_checked : (h : Held) (k D : ℕ) (q : List ℕ) → CheckLaws C h.n k D (bytes_of C h) q (held_proposal_answer C h k D q)
  -- "for a yes with D at most the matrix's bound it is our list, row for row, whoever proposed it"
  pub row_for_row : (n k D : ℕ) (m q : List ℕ) → 1 ≤ k → n ≤ C.positions → Symbols C q → is_yes C n (k - 1) D m q ≡ true → D ≤ bound (k - 1) (cost m)
      → list_from C n k D m q ≡ list_of C n k m
  -- what the calls leave, for bytes and for a record
  pub listed : (n k G D : ℕ) (m q rows scores : List ℕ)
      → ListLaws C n k D m q rows scores (proposal_answer C n k D m q)
      (left (list_answer C n k G m rows scores) (list_rows C n k G m rows scores) (list_scores C n k G m rows scores))
      (left (proposal_list_answer C n k G D m q rows scores) (proposal_list_rows C n k G D m q rows scores) (proposal_list_scores C n k G D m q rows scores))
  pub held_listed : (h : Held) (k G D : ℕ) (q rows scores : List ℕ)
      → ListLaws C h.n k D (bytes_of C h) q rows scores (held_proposal_answer C h k D q)
      (left (held_list_answer C h k G rows scores) (held_list_rows C h k G rows scores) (held_list_scores C h k G rows scores))
      (left (held_proposal_list_answer C h k G D q rows scores) (held_proposal_list_rows C h k G D q rows scores) (held_proposal_list_scores C h k G D q rows scores))
