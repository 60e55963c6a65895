-- Weights to multiplicities, cost and score of document 01.
-- Assumes nothing.
use Rattle.std.specs.Prelude.{List, map, ℕ, ◌+◌, ◌*◌, ◌/◌, length, get_or}
use Rattle.definitions.specs.Code.{codeword}
use Rattle.definitions.specs.Field.{Code}
use Rattle.definitions.specs.Limits.{greatest_sum}
use Rattle.definitions.specs.Tools.{sum}

-- "position i, symbol b is at 16i + b"; what lies past the end is zero, as "unused columns are zero"
abbrev pub entry : Code → List ℕ → ℕ → ℕ → ℕ
entry C m i b = get_or m (C.symbols * i + b) 0

-- a position's sixteen numbers, summed
abbrev pub sum_of_column : Code → List ℕ → ℕ → ℕ
sum_of_column C r i = sum C.symbols (entry C r i)

-- "The multiplicity is the whole part of L times the reliability over 4,096"
abbrev pub multiplicity : ℕ → ℕ → ℕ
multiplicity L r = L * r / greatest_sum

-- "Lent as bytes it has the same 16n layout"
abbrev pub matrix : ℕ → List ℕ → List ℕ
matrix L r = map (multiplicity L) r

-- "Cost C is the sum of m(m+1)/2 over all entries"
abbrev pub entry_cost : ℕ → ℕ
entry_cost m = m * (m + 1) / 2

abbrev pub cost : List ℕ → ℕ
cost m = sum (length m) (λ (j : ℕ). entry_cost (get_or m j 0))

-- "The score of a codeword is the sum, over positions, of the entry at its symbol"
abbrev pub score : Code → ℕ → List ℕ → List ℕ → ℕ
score C n m f = sum n (λ (i : ℕ). entry C m i (get_or (codeword C n f) i 0))
