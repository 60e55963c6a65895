-- What the calls for a list answer, and leave in the lent memory, for the hard words 1,1,1 and 1,1,2 of document 01.
-- Assumes nothing.
use Rattle.std.specs.Prelude.{List, [], ◌∷◌, ◌≡◌, ℕ, ◌*◌, ◌≤◌, length, drop}
use Rattle.definitions.specs.Answers.{Answer, counted, list_answer, list_rows, list_scores, read_answer, read_rows, read_scores}
use Rattle.definitions.specs.Field.{sixteen}
use Rattle.definitions.specs.Limits.{greatest_sum, greatest_limit, greatest_rows}
use Rattle.starred.specs.Single.{single, hard_word}

-- a call's answer, and the rows and the scores after it
abbrev pub Left : Type 0
Left = Answer × List ℕ × List ℕ

-- three positions with all the weight on one symbol each, k 2, L 1; and the multiplicities that they give
abbrev pub from_weights : List ℕ → ℕ → List ℕ → List ℕ → Left
from_weights word G rows scores =
    let r = single sixteen greatest_sum word in
    (read_answer sixteen 3 2 1 G r rows scores, read_rows sixteen 3 2 1 G r rows scores, read_scores sixteen 3 2 1 G r rows scores)

abbrev pub from_matrix : List ℕ → ℕ → List ℕ → List ℕ → Left
from_matrix word G rows scores =
    let m = hard_word word in
    (list_answer sixteen 3 2 G m rows scores, list_rows sixteen 3 2 G m rows scores, list_scores sixteen 3 2 G m rows scores)

-- both leave this of any memory with room, at every limit from the cost, 3, to the greatest
abbrev pub Both : List ℕ → (List ℕ → List ℕ → Left) → Type 0
Both word left =
    (G : ℕ) (rows scores : List ℕ) → 3 ≤ G → G ≤ greatest_limit → greatest_rows * 2 ≤ length rows → greatest_rows ≤ length scores
    → (from_weights word G rows scores ≡ left rows scores) × (from_matrix word G rows scores ≡ left rows scores)

pub record HardWords : Type 0 where
  -- one row, message 1,0, with score 3: neither an empty list, nor nothing written
  pub of_111 : Both (1 ∷ 1 ∷ 1 ∷ []) (λ rows scores. (counted 1, 1 ∷ 0 ∷ drop 2 rows, 3 ∷ drop 1 scores))
  -- "list empty": not that row again
  pub of_112 : Both (1 ∷ 1 ∷ 2 ∷ []) (λ rows scores. (counted 0, rows, scores))
