-- Fold after fold: what is left of each column gives the whole shift.
use Rattle.std.proofs.Common.{◌≡◌, ℕ, ◌^◌, ◌-◌, ◌<◌}
use Rattle.alphabet.specs.Codes.{code_on}
use Rattle.definitions.specs.Code.{Symbols}
use Rattle.instances.proofs.Codes.{field_on}
use Rattle.substitution.proofs.Shifting.{LeftOf}
use Rattle.substitution.proofs.shift.Given as goal

-- Before the fold of a bit, a power of two, what is left of each column gives the whole shift.
abbrev pub invariant-loop-bit : goal.invariant-loop-bit
invariant-loop-bit l = record {
  two : (k : ℕ) × (l.bit ≡ 2 ^ k);
  power : l.power < (code_on l.alphabet).symbols;
  symbols : Symbols (code_on l.alphabet) l.p;
  left : LeftOf (code_on l.alphabet) (field_on l.alphabet) l.h l.w l.g l.initial.p l.bit l.power l.p;
}

-- each fold leaves fewer bits
abbrev pub decreases-loop-bit : goal.decreases-loop-bit
decreases-loop-bit l = l.h - l.bit
