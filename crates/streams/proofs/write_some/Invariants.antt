use Rattle.std.specs.Io.KnownBytes.{Keeps}
use Rattle.streams.proofs.write_some.Given as goal

-- a call that was interrupted added nothing
abbrev pub invariant-loop : goal.invariant-loop
invariant-loop g l = Keeps (g.W.Write.contents l.initial.writer) (g.W.Write.contents l.writer)
