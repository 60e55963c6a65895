-- The sum begins with the entry of column j, and each pass adds one product more to it.
use Rattle.std.proofs.Common.{arith}
use Rattle.alphabet.specs.Codes.{code_on}
use Rattle.definitions.specs.Field.{sum_of}
use Rattle.elimination.proofs.Solving.{back_none, back_more}
use Rattle.elimination.proofs.back.Goals as goal

pub loop-i-init : goal.loop-i-init
loop-i-init c = back_none (code_on c.args.alphabet) _ c.args.s _ _

pub loop-i-preserved : goal.loop-i-preserved
unfolding sum_of
loop-i-preserved c = back_more (code_on c.args.alphabet) _ c.args.s c.loop-i.i _ _ _ _ (omega arith) c.loop-i.invariant c.look-y.ensures
