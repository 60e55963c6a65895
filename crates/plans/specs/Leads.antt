-- The place that leads others, and the places that lead the columns.
-- Assumes nothing.
use Rattle.std.specs.Prelude.{true, false, List, ◌≡◌, ℕ, ◌+◌, ◌*◌, ◌≤◌, ◌<◌, length, get_or}
use Rattle.definitions.specs.Field.{Code}
use Rattle.definitions.specs.Planning.{beats}

-- of the places from a start up to an end it is the best: none beats it, and it beats all before it
pub record Leads (r m : List ℕ) (start end place : ℕ) : Type 0 where
  pub from : start ≤ place
  pub to : place < end
  pub unbeaten : (i : ℕ) → start ≤ i → i < end → beats r m i place ≡ false
  pub lowest : (i : ℕ) → start ≤ i → i < place → beats r m place i ≡ true

module _ (C : Code) where
  -- of a column's symbols
  abbrev pub LeadsColumn : List ℕ → List ℕ → ℕ → ℕ → Type 0
  LeadsColumn r m i place = Leads r m (C.symbols * i) (C.symbols * i + C.symbols) place

  -- the first n columns have their leaders, of which there is one for every position
  pub record Led (r m : List ℕ) (n : ℕ) (leaders : List ℕ) : Type 0 where
    pub full : length leaders ≡ C.positions
    pub leads : (i : ℕ) → i < n → LeadsColumn r m i (get_or leaders i 0)
