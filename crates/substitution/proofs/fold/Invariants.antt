-- A round folds entry b of each column, where b lacks the bit, and leaves it where it has it.
use Rattle.alphabet.specs.Codes.{code_on}
use Rattle.definitions.specs.Code.{Symbols}
use Rattle.substitution.proofs.Shifting.{FoldedTo}
use Rattle.substitution.proofs.fold.Given as goal

-- Before round b the entries before b of each column are folded, and those from b on are as they were.
abbrev pub invariant-loop-b : goal.invariant-loop-b
invariant-loop-b l = record {
  symbols : Symbols (code_on l.alphabet) l.p;
  folded : FoldedTo (code_on l.alphabet) l.h l.w l.bit l.g l.initial.p l.b l.p;
}
