-- The first n entries of two lists are the same.
-- Assumes nothing.
use Rattle.std.specs.Prelude.{Bool, List, ℕ, eqb, get_or}
use Rattle.definitions.specs.Tools.{every}

abbrev pub same_up_to : ℕ → List ℕ → List ℕ → Bool
same_up_to n l o = every n (λ (j : ℕ). eqb (get_or l j 0) (get_or o j 0))
