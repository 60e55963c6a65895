-- Words that the definitions are written with.
-- Assumes nothing.
use Rattle.std.specs.Prelude.{Bool, true, cond, ◌&&◌, List, [], ◌∷◌, ◌++◌, ℕ, zero, suc, ◌+◌}

-- 0, 1, .., n - 1
unfoldable pub below : ℕ → List ℕ
below zero = []
below (suc n) = below n ++ (n ∷ [])

-- f 0 + f 1 + .. + f (n - 1)
unfoldable pub sum : ℕ → (ℕ → ℕ) → ℕ
sum zero f = 0
sum (suc n) f = sum n f + f n

-- every number below n passes the test
unfoldable pub every : ℕ → (ℕ → Bool) → Bool
every zero test = true
every (suc n) test = every n test && test n

-- the smallest number that passes the test, of those up to n; n where none before it does
unfoldable pub smallest : (ℕ → Bool) → ℕ → ℕ
smallest test zero = 0
smallest test (suc n) = cond (test 0) 0 (suc (smallest (λ m. test (suc m)) n))

-- those of a list that pass the test, in their order
unfoldable pub select : {B : Type 0} → (B → Bool) → List B → List B
select test [] = []
select test (b ∷ l) = cond (test b) (b ∷ select test l) (select test l)
