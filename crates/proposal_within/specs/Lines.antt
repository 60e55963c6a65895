-- The lines that are left of a list once the symbols are tried.
-- Assumes nothing.
use Rattle.std.specs.Prelude.{List, [], ◌∷◌, ℕ, ◌-◌}
use Rattle.definitions.specs.Field.{Code}
use Rattle.definitions.specs.Proposals.{within_bound, proposed}
use Rattle.definitions.specs.Refusals.{Line, cost_within}

-- "7 cost", "a D above the bound .., tried after 7", and "proposal, tried last"
abbrev pub list_lines : Code → ℕ → ℕ → ℕ → ℕ → List ℕ → List ℕ → List Line
list_lines C n k G D q m = cost_within G m ∷ within_bound (k - 1) m D ∷ proposed C n (k - 1) D m q ∷ []
