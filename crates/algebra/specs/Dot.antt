-- A row times a column.
-- Assumes nothing.
use Rattle.std.specs.Prelude.{ℕ, zero, suc}
use Rattle.definitions.specs.Field.{Ops}

-- the sum of r k q k over k below n
unfoldable pub dot : (A : Ops) → ℕ → (ℕ → A.K) → (ℕ → A.K) → A.K
dot A zero r q = A.o
dot A (suc n) r q = A.add (dot A n r q) (A.mul (r n) (q n))
