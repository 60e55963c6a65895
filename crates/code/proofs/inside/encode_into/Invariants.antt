-- The loop goes over the front of `out` and carries the point of the next position.
use Rattle.std.proofs.Common.{◌≡◌, ◌++◌, drop}
use Rattle.alphabet.specs.Codes.{code_on}
use Rattle.definitions.specs.Code.{point, codeword}
use Rattle.code.proofs.inside.encode_into.Given as goal

-- So many symbols of the codeword are written as were met, and x is the point of the next one.
abbrev pub invariant-loop-symbol : goal.invariant-loop-symbol
invariant-loop-symbol l =
    (l.x ≡ point (code_on l.alphabet) l.symbol-index) × (l.symbol-items ≡ codeword (code_on l.alphabet) l.symbol-index l.f ++ drop l.symbol-index l.initial.symbol-items)
