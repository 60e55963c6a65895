use Rattle.std.proofs.Common.{ℕ, get_or}
use Rattle.algebra.specs.Grid.{entry_of}
use Rattle.alphabet.specs.Codes.{code_on}
use Rattle.blocks.proofs.Filled.{Filling}
use Rattle.monomials.proofs.values_by.Given as goal

-- The first `place` entries are the values of the monomials of their places.
abbrev pub invariant-loop-place : goal.invariant-loop-place
invariant-loop-place l =
    Filling l.count l.place (λ (k : ℕ). (code_on l.alphabet).times (get_or l.px (entry_of l.es 0 k) 0) (get_or l.py (entry_of l.es 1 k) 0)) l.row
