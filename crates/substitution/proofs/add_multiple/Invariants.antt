-- The loop goes over the columns.
use Rattle.alphabet.specs.Codes.{code_on}
use Rattle.definitions.specs.Code.{Symbols}
use Rattle.substitution.specs.Array.{Added}
use Rattle.substitution.proofs.add_multiple.Given as goal

-- Before column a, entry `to` has its multiple in all columns before it; all entries are symbols.
abbrev pub invariant-loop-a : goal.invariant-loop-a
invariant-loop-a l = record {
  symbols : Symbols (code_on l.alphabet) l.p;
  added : Added (code_on l.alphabet) l.h l.w l.a l.to l.from l.g l.initial.p l.p;
}
