use Rattle.std.proofs.Common.{◌≡◌, ℕ, get_or}
use Rattle.alphabet.specs.Codes.{code_on}
use Rattle.definitions.specs.Field.{numbers}
use Rattle.linear.specs.Rows.{behind}
use Rattle.elimination.proofs.back.Given as goal

-- y is the entry of column j and the sum of the products behind s and before i.
abbrev pub invariant-loop-i : goal.invariant-loop-i
invariant-loop-i l = l.y ≡ behind (numbers (code_on l.alphabet)) (get_or l.row l.j 0) l.s l.i (λ (k : ℕ). get_or l.row k 0) (λ (k : ℕ). get_or l.out k 0)
