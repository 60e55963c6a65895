-- Entry b goes to column a + b, as long as there is one.
use Rattle.substitution.specs.Array.{Laid, SymbolsLaid}
use Rattle.substitution.proofs.lay.Given as goal

-- Before round b the first b entries of the column are laid, each in a column of its own.
abbrev pub invariant-loop-b : goal.invariant-loop-b
invariant-loop-b l = record {
  symbols : SymbolsLaid l.col l.initial.p l.p;
  laid : Laid l.h l.w l.a l.b l.col l.initial.p l.p;
}
