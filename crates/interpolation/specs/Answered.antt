-- What a call of interpolation has that passed the checks before the cost, and what a table makes of it.
-- Assumes nothing.
use Rattle.std.specs.Prelude.{List, ◌≡◌, ℕ, ◌≤◌}
use Rattle.definitions.specs.Answers.{Answer, refused, Interpolated}
use Rattle.definitions.specs.Field.{Code}
use Rattle.definitions.specs.Limits.{greatest_limit, coefficient_room}
use Rattle.definitions.specs.Refusals.{Line, tried}

module _ (C : Code) where
  pub record Fit (n k G space : ℕ) : Type 0 where
    pub sized : (2 ≤ k) × (k ≤ n) × (n ≤ C.positions)
    pub low : G ≤ greatest_limit
    pub spacious : coefficient_room ≤ space

  -- the answer and the memory after it: a refusal and out as it was, or the polynomial
  abbrev pub Answered : List Line → ℕ → ℕ → List ℕ → List ℕ → Answer → List ℕ → Type 0
  Answered table n k m out answer after =
      tried table (λ number place. (answer ≡ refused number place) × (after ≡ out)) (Interpolated C n k m out answer after)
