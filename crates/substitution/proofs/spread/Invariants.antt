-- The loop goes over the columns.
use Rattle.substitution.specs.Array.{Spread, SymbolsKept}
use Rattle.substitution.proofs.spread.Given as goal

-- Before column a the columns before it are laid, over zeros; what was symbols is symbols.
abbrev pub invariant-loop-a : goal.invariant-loop-a
invariant-loop-a l = record {
  symbols : SymbolsKept l.p l.q;
  spread : Spread l.h l.w l.a l.p l.q;
}
