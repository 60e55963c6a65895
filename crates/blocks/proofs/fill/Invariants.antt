use Rattle.definitions.specs.Field.{sum_of}
use Rattle.blocks.specs.Row.{FilledTo}
use Rattle.blocks.proofs.fill.Given as goal

-- The first c multiples from h on are made, and those below h are as they were.
abbrev pub invariant-loop-c : goal.invariant-loop-c
invariant-loop-c l = FilledTo sum_of l.h l.c l.high l.initial.times l.times
