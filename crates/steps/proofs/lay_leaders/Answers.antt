-- A leader that is laid changes none of those before it.
use Rattle.std.proofs.Common.{arith}
use Rattle.alphabet.specs.Codes.{code_on}
use Rattle.plans.proofs.Leads.{led_more}
use Rattle.steps.proofs.lay_leaders.Goals as goal

pub loop-i-preserved : goal.loop-i-preserved
loop-i-preserved c =
    let led = c.loop-i.invariant in
    let small = c.requires.0.weights.small in
    led_more (code_on c.args.alphabet) _ _ _ led.full c.loop-i.i _ (omega arith) c.best_of_column.ensures led
