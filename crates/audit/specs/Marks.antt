-- Marks of a tag that reads a word: how many are erased, and how many are read wrong.
-- Assumes nothing.
use Rattle.std.specs.Prelude.{cond, List, ℕ, eqb, ltb, get_or}
use Rattle.definitions.specs.Field.{Code}
use Rattle.definitions.specs.Limits.{greatest_sum}
use Rattle.definitions.specs.Tools.{sum}
use Rattle.definitions.specs.Weights.{matrix}
use Rattle.starred.specs.Single.{single}

module _ (C : Code) where
  -- the weights of a tag that reads one word: 4,096 on each symbol of it; the matrix that they give
  abbrev pub weights_of : List ℕ → List ℕ
  weights_of word = single C greatest_sum word

  abbrev pub matrix_of : ℕ → List ℕ → List ℕ
  matrix_of L word = matrix L (weights_of word)

  -- of n marks, those whose number is no symbol: their column is zero
  abbrev pub erased : ℕ → List ℕ → ℕ
  erased n word = sum n (λ (i : ℕ). cond (ltb (get_or word i 0) C.symbols) 0 1)

  -- those that are read, and not as the codeword c has them
  abbrev pub wrong : ℕ → List ℕ → List ℕ → ℕ
  wrong n word c = sum n (λ (i : ℕ). cond (ltb (get_or word i 0) C.symbols) (cond (eqb (get_or word i 0) (get_or c i 0)) 0 1) 0)
