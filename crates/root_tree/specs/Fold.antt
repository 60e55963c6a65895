-- The fold, by which a column is shifted in place: once for each bit of a place.
-- Assumes nothing.
use Rattle.std.specs.Prelude.{cond, ℕ, ◌+◌, eqb}
use Rattle.std.specs.Int.Bits.{bit_and}
use Rattle.definitions.specs.Field.{Ops}

-- entry t after the fold: where t lacks the bit, c times the entry that has it is added
abbrev pub folded : (A : Ops) → ℕ → A.K → (ℕ → A.K) → ℕ → A.K
folded A bit c f t = cond (eqb (bit_and t bit) 0) (A.add (f t) (A.mul c (f (t + bit)))) (f t)
