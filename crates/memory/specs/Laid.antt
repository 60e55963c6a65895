-- A list laid over another.
-- Assumes nothing.
use Rattle.std.specs.Prelude.{List, ◌++◌, ℕ, ◌+◌, length, take, drop}

-- the part in place of what lies from a place on; what lies before it and behind it stays
unfoldable pub laid : List ℕ → ℕ → List ℕ → List ℕ
laid out at part = take at out ++ part ++ drop (at + length part) out
