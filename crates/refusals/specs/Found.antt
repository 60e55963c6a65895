-- The first of many places that is sought, where there is one.
-- Assumes nothing.
use Rattle.std.specs.Prelude.{◌≡◌, ℕ, ◌≤◌, ◌<◌, Option, Some, None}

abbrev pub Found : ℕ → ℕ → Option ℕ → Type 0
Found first many (Some place) = (place ≡ first) × (first < many)
Found first many None = many ≤ first
