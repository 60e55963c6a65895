-- Horner's rule goes down from the last coefficient.
use Rattle.std.proofs.Common.{◌≡◌, ◌-◌, length, drop}
use Rattle.alphabet.specs.Codes.{code_on}
use Rattle.definitions.specs.Field.{numbers, value}
use Rattle.code.proofs.inside.value_at.Given as goal

-- The coefficients that were met are the last ones, and y is their value at x.
abbrev pub invariant-loop-c : goal.invariant-loop-c
invariant-loop-c l = l.y ≡ value (numbers (code_on l.alphabet)) l.x (drop (length l.f - length l.yielded) l.f)
