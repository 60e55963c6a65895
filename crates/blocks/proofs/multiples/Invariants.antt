use Rattle.std.proofs.Common.{◌≡◌, ◌-◌, length}
use Rattle.blocks.proofs.Doubling.{Doubled}
use Rattle.blocks.proofs.multiples.Given as goal

-- The multiples below h are there, and the block to be added next is the multiple h.
abbrev pub invariant-loop-h : goal.invariant-loop-h
invariant-loop-h g l = (length l.times ≡ g.row.SYMBOLS) × Doubled l.alphabet l.a l.h l.high l.times

-- h grows to the number of symbols
abbrev pub decreases-loop-h : goal.decreases-loop-h
decreases-loop-h g l = g.row.SYMBOLS - l.h
