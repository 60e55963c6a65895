-- One law of Shifting ends the fold.
use Rattle.std.proofs.Common.{arith}
use Rattle.alphabet.specs.Codes.{code_on}
use Rattle.instances.proofs.Codes.{field_on}
use Rattle.substitution.proofs.Shifting.{folded_all}
use Rattle.substitution.proofs.fold.Goals as goal

-- The last entries have none after them that has the bit, and stay.
pub returns-clause-folded : goal.returns-clause-folded
returns-clause-folded c =
    let l = c.loop-b in
    let a = c.args in
    folded_all (code_on a.alphabet) a.h a.w a.bit a.g a.p.now (field_on a.alphabet) c.requires.bit_nonzero.4 c.requires.symbols_2 l.b l.p (omega arith) l.invariant.folded
