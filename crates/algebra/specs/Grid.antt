-- Rows of numbers, one under the other.
-- Assumes nothing.
use Rattle.std.specs.Prelude.{List, [], ◌≡◌, ℕ, ◌≤◌, ◌<◌, get_or}

-- the entry of row i in column k; zero where there is none
abbrev pub entry_of : List (List ℕ) → ℕ → ℕ → ℕ
entry_of m i k = get_or (get_or m i []) k 0

-- a row is f from `from` to before `to`, and stays elsewhere
pub record Patched (from to : ℕ) (f old new : ℕ → ℕ) : Type 0 where
  pub inside : (k : ℕ) → from ≤ k → k < to → new k ≡ f k
  pub before : (k : ℕ) → k < from → new k ≡ old k
  pub after : (k : ℕ) → to ≤ k → new k ≡ old k
