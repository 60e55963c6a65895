-- The lines of a degree limit: of N(D), and of how many coefficients are given.
-- Assumes nothing.
use Rattle.std.specs.Prelude.{not, ℕ, eqb}
use Rattle.definitions.specs.Bound.{count}
use Rattle.definitions.specs.Refusals.{Line, line, degree}

abbrev pub limited : ℕ → ℕ → Line
limited v D = degree v D

abbrev pub stated : ℕ → ℕ → ℕ → Line
stated v D given = line 3 (not (eqb given (count v D)))
