use Rattle.alphabet.specs.Codes.{code_on}
use Rattle.linear.specs.Rows.{Solved}
use Rattle.elimination.proofs.Solving.{SymbolsFrom}
use Rattle.elimination.proofs.solve_by.Given as goal

-- The entries from s up to j are found, and all of them are symbols.
abbrev pub invariant-loop-s : goal.invariant-loop-s
invariant-loop-s l = Solved (code_on l.alphabet) l.j l.s l.system l.initial.out l.out × SymbolsFrom (code_on l.alphabet) l.s l.j l.out
