use Rattle.std.proofs.Common.{sym, ap, not, arith}
use Rattle.std.proofs.lemmas.Grind.{common_steps}
use Rattle.definitions.proofs.Every.{every_of, every_but}
use Rattle.rows.proofs.is_new.Goals as goal

-- Row i has the message of row j, so row j is not new.
pub returns-then-same : goal.returns-then-same
returns-then-same c = sym (every_but _ _ c.loop-i.i (omega arith) (grind (arith, common_steps)))

-- The loop has come to row j, so no row before it has its message.
pub returns : goal.returns
returns c = sym (every_of _ _ (λ i h. ap not (c.loop-i.invariant i (omega arith))))
