-- What a matrix record holds, as the page tells it.
-- Assumes nothing.
use Rattle.definitions.specs.Held.{Held, held}
use Rattle.matrix.specs.declared.Matrix.{Matrix}

-- field by field
abbrev pub held_by : Matrix → Held
held_by m = held m.n m.cost m.totals m.entries
