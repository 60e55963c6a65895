-- The starred lines of document 01, as one statement of the definitions.
-- Assumes nothing.
use Rattle.std.specs.Prelude.{cond, List, [], ◌∷◌, ◌≡◌, ℕ, ltb}
use Rattle.definitions.specs.Bound.{count, bound}
use Rattle.definitions.specs.Code.{codeword, messages}
use Rattle.definitions.specs.Field.{sixteen, inverse_of}
use Rattle.definitions.specs.Listing.{list_of}
use Rattle.definitions.specs.Polynomial.{Interpolates}
use Rattle.definitions.specs.Roots.{roots_of}
use Rattle.definitions.specs.Weights.{multiplicity, cost, score}
use Rattle.starred.specs.Single.{hard_word}

-- the greatest of the messages' scores
unfoldable pub best : ℕ → List ℕ → List (List ℕ) → ℕ
best n m [] = 0
best n m (f ∷ l) = cond (ltb (best n m l) (score sixteen n m f)) (score sixteen n m f) (best n m l)

pub record Starred : Type 0 where
  -- "3·5 = 15", "the inverse of 2 is 9, of 3 is 14"
  pub product : sixteen.times 3 5 ≡ 15
  pub inverse_of_2 : inverse_of sixteen 2 ≡ 9
  pub inverse_of_3 : inverse_of sixteen 3 ≡ 14
  -- "L = 4: reliability 1,023 gives 0, 1,024 gives 1"
  pub multiplicity_of_1023 : multiplicity 4 1023 ≡ 0
  pub multiplicity_of_1024 : multiplicity 4 1024 ≡ 1
  -- "n 3, k 2: message 0,1 encodes to 1, 2, 4"
  pub encoded : codeword sixteen 3 (0 ∷ 1 ∷ []) ≡ 1 ∷ 2 ∷ 4 ∷ []
  -- "v 6: C 15 has bound 10; C 150 has bound 39 (N(38) = 147, N(39) = 154)"
  pub bound_of_15 : bound 6 15 ≡ 10
  pub bound_of_150 : bound 6 150 ≡ 39
  pub count_of_38 : count 6 38 ≡ 147
  pub count_of_39 : count 6 39 ≡ 154
  -- "Hard word 1,1,1 with k 2: cost 3, bound 2, coefficients 1,0,1,0,0,0"
  pub cost_of_111 : cost (hard_word (1 ∷ 1 ∷ 1 ∷ [])) ≡ 3
  pub bound_of_111 : bound 1 (cost (hard_word (1 ∷ 1 ∷ 1 ∷ []))) ≡ 2
  pub polynomial_of_111 : Interpolates sixteen 3 1 2 (hard_word (1 ∷ 1 ∷ 1 ∷ [])) (1 ∷ 0 ∷ 1 ∷ 0 ∷ 0 ∷ 0 ∷ [])
  -- "Hard word 1,1,2 with k 2: best score 2, list empty"
  pub best_of_112 : best 3 (hard_word (1 ∷ 1 ∷ 2 ∷ [])) (messages sixteen 2) ≡ 2
  pub list_of_112 : list_of sixteen 3 2 (hard_word (1 ∷ 1 ∷ 2 ∷ [])) ≡ []
  -- "Hard word 1,1,1,2 with k 2: cost 4, bound 2, one row, score 3, message 1,0"
  pub cost_of_1112 : cost (hard_word (1 ∷ 1 ∷ 1 ∷ 2 ∷ [])) ≡ 4
  pub bound_of_1112 : bound 1 (cost (hard_word (1 ∷ 1 ∷ 1 ∷ 2 ∷ []))) ≡ 2
  pub list_of_1112 : list_of sixteen 4 2 (hard_word (1 ∷ 1 ∷ 1 ∷ 2 ∷ [])) ≡ (1 ∷ 0 ∷ []) ∷ []
  pub score_of_1112 : score sixteen 4 (hard_word (1 ∷ 1 ∷ 1 ∷ 2 ∷ [])) (1 ∷ 0 ∷ []) ≡ 3
  -- "k 2, D 2: coefficients 0,0,0,0,1,1 have roots 0,0 and 0,1; 0,0,0,0,0,1 has root 0,0 once"
  pub two_roots : roots_of sixteen 2 2 (0 ∷ 0 ∷ 0 ∷ 0 ∷ 1 ∷ 1 ∷ []) ≡ (0 ∷ 0 ∷ []) ∷ (0 ∷ 1 ∷ []) ∷ []
  pub root_once : roots_of sixteen 2 2 (0 ∷ 0 ∷ 0 ∷ 0 ∷ 0 ∷ 1 ∷ []) ≡ (0 ∷ 0 ∷ []) ∷ []
