-- What the tables of constants hold.
-- Assumes nothing.
use Rattle.std.specs.Prelude.{List, ◌≡◌, ℕ, ◌+◌, ◌*◌, ◌≤◌, ◌<◌, length, get_or}
use Rattle.definitions.specs.Field.{Code, inverse_of}

-- "a table of all 256 products": of sixteen symbols a b is at 16a + b
unfoldable pub Products : Code → List ℕ → Type 0
Products C t = (a b : ℕ) → a < C.symbols → b < C.symbols → get_or t (a * C.symbols + b) 0 ≡ C.times a b

-- a lent table: it has its rule, and all products
pub record Tabled (C : Code) (t : List ℕ) : Type 0 where
  pub rule : Products C t
  pub whole : C.symbols * C.symbols ≤ length t

unfoldable pub Inverses : Code → List ℕ → Type 0
Inverses C t = (a : ℕ) → a < C.symbols → (a ≡ 0 → ⊥) → get_or t a 0 ≡ inverse_of C a
