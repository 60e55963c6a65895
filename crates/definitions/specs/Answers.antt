-- What each entry answers, and what it leaves in the lent memory, for every input.
-- Assumes nothing.
use mathlib.Core.List.{List, ◌++◌, map, flatten}
use Rattle.std.specs.Prelude.{◌≡◌, ℕ, ◌-◌, ◌*◌, length, drop}
use Rattle.definitions.specs.Bound.{bound}
use Rattle.definitions.specs.Code.{codeword}
use Rattle.definitions.specs.Field.{Code, inverse_of}
use Rattle.definitions.specs.Listing.{list_of}
use Rattle.definitions.specs.Polynomial.{Interpolates}
use Rattle.definitions.specs.Refusals.{tried, field_table, inverse_table, encode_table, multiplicities_table, cost_table, interpolation_table, roots_table, list_table, read_table}
use Rattle.definitions.specs.Roots.{roots_of}
use Rattle.definitions.specs.Weights.{matrix, cost, score}

-- the numbers of an answer: the refusal's, 0 where there is none, with its place; the count of what is written; and those that only some
-- entries give
pub record Answer : Type 0 where
  pub number : ℕ
  pub place : ℕ
  pub count : ℕ
  pub value : ℕ
  pub cost : ℕ
  pub bound : ℕ

-- "Each refusal answers its number, a count of 0, 0 for every other number of the answer, and a place"
abbrev pub refused : ℕ → ℕ → Answer
refused number place = record { number = number; place = place; count = 0; value = 0; cost = 0; bound = 0 }

abbrev pub valued : ℕ → Answer
valued x = record { number = 0; place = 0; count = 0; value = x; cost = 0; bound = 0 }

abbrev pub counted : ℕ → Answer
counted n = record { number = 0; place = 0; count = n; value = 0; cost = 0; bound = 0 }

abbrev pub costed : ℕ → ℕ → Answer
costed C D = record { number = 0; place = 0; count = 0; value = 0; cost = C; bound = D }

-- "Interpolation answers the bound", and the count of its coefficients
abbrev pub interpolated : ℕ → ℕ → Answer
interpolated D n = record { number = 0; place = 0; count = n; value = 0; cost = 0; bound = D }

-- the rows one after the other, and what lies after them
abbrev pub rows_onto : ℕ → List (List ℕ) → List ℕ → List ℕ
rows_onto k rows out = flatten rows ++ drop (k * length rows) out

module _ (C : Code) where
  abbrev pub sum_answer : ℕ → ℕ → Answer
  sum_answer a b = tried (field_table C a b) refused (valued (C.plus a b))

  abbrev pub product_answer : ℕ → ℕ → Answer
  product_answer a b = tried (field_table C a b) refused (valued (C.times a b))

  abbrev pub inverse_answer : ℕ → Answer
  inverse_answer a = tried (inverse_table C a) refused (valued (inverse_of C a))

  -- "Encoding writes n symbols .., and there too whatever lies beyond what is written stays"; "No lent memory changes" where it is refused
  abbrev pub encode_answer : ℕ → ℕ → List ℕ → List ℕ → Answer
  encode_answer n k f out = tried (encode_table C n k f (length out)) refused (counted n)

  abbrev pub encode_out : ℕ → ℕ → List ℕ → List ℕ → List ℕ
  encode_out n k f out = tried (encode_table C n k f (length out)) (λ _ _. out) (codeword C n f ++ drop n out)

  -- "and multiplicities 16n"
  abbrev pub multiplicities_answer : ℕ → ℕ → List ℕ → List ℕ → Answer
  multiplicities_answer n L r out = tried (multiplicities_table C n L r (length out)) refused (counted (C.symbols * n))

  abbrev pub multiplicities_out : ℕ → ℕ → List ℕ → List ℕ → List ℕ
  multiplicities_out n L r out = tried (multiplicities_table C n L r (length out)) (λ _ _. out) (matrix L r ++ drop (C.symbols * n) out)

  abbrev pub cost_answer : ℕ → ℕ → List ℕ → Answer
  cost_answer n k m = tried (cost_table C n k m) refused (costed (cost m) (bound (k - 1) (cost m)))

  -- "It writes N(bound) coefficients": the answer and the memory after a call, with out before it
  abbrev pub Interpolated : ℕ → ℕ → List ℕ → List ℕ → Answer → List ℕ → Type 0
  Interpolated n k m out answer after =
      (q : List ℕ) × Interpolates C n (k - 1) (bound (k - 1) (cost m)) m q
      × (answer ≡ interpolated (bound (k - 1) (cost m)) (length q)) × (after ≡ q ++ drop (length q) out)

  abbrev pub InterpolationAnswers : ℕ → ℕ → ℕ → List ℕ → List ℕ → Answer → List ℕ → Type 0
  InterpolationAnswers n k G m out answer after =
      tried (interpolation_table C n k G m (length out)) (λ number place. (answer ≡ refused number place) × (after ≡ out))
      (Interpolated n k m out answer after)

  abbrev pub roots_answer : ℕ → ℕ → List ℕ → List ℕ → Answer
  roots_answer D k q out = tried (roots_table C D k q (length out)) refused (counted (length (roots_of C D k q)))

  abbrev pub roots_out : ℕ → ℕ → List ℕ → List ℕ → List ℕ
  roots_out D k q out = tried (roots_table C D k q (length out)) (λ _ _. out) (rows_onto k (roots_of C D k q) out)

  -- "Only the bytes and scores of the rows counted are written, row after row without gaps; what lies after them stays"
  abbrev pub scores_onto : ℕ → List ℕ → List (List ℕ) → List ℕ → List ℕ
  scores_onto n m rows out = map (score C n m) rows ++ drop (length rows) out

  abbrev pub list_answer : ℕ → ℕ → ℕ → List ℕ → List ℕ → List ℕ → Answer
  list_answer n k G m rows scores =
      tried (list_table C n k G m (length rows) (length scores)) refused (counted (length (list_of C n k m)))

  abbrev pub list_rows : ℕ → ℕ → ℕ → List ℕ → List ℕ → List ℕ → List ℕ
  list_rows n k G m rows scores =
      tried (list_table C n k G m (length rows) (length scores)) (λ _ _. rows) (rows_onto k (list_of C n k m) rows)

  abbrev pub list_scores : ℕ → ℕ → ℕ → List ℕ → List ℕ → List ℕ → List ℕ
  list_scores n k G m rows scores =
      tried (list_table C n k G m (length rows) (length scores)) (λ _ _. scores) (scores_onto n m (list_of C n k m) scores)

  -- the list of the matrix that the reliabilities give
  abbrev pub read_answer : ℕ → ℕ → ℕ → ℕ → List ℕ → List ℕ → List ℕ → Answer
  read_answer n k L G r rows scores =
      tried (read_table C n k L G r (length rows) (length scores)) refused (counted (length (list_of C n k (matrix L r))))

  abbrev pub read_rows : ℕ → ℕ → ℕ → ℕ → List ℕ → List ℕ → List ℕ → List ℕ
  read_rows n k L G r rows scores =
      tried (read_table C n k L G r (length rows) (length scores)) (λ _ _. rows) (rows_onto k (list_of C n k (matrix L r)) rows)

  abbrev pub read_scores : ℕ → ℕ → ℕ → ℕ → List ℕ → List ℕ → List ℕ → List ℕ
  read_scores n k L G r rows scores =
      tried (read_table C n k L G r (length rows) (length scores)) (λ _ _. scores)
      (scores_onto n (matrix L r) (list_of C n k (matrix L r)) scores)
