-- Zeros are the plan of no steps, and the memory follows the rule step by step; a step that raises
-- nothing has stopped the plan for good.
use Rattle.std.proofs.Common.{sym, ◌∙◌, arith}
use Rattle.alphabet.specs.Codes.{code_on}
use Rattle.plans.proofs.Planning.{plan_zero, plan_low, done_zero}
use Rattle.steps.proofs.Stepping.{beside_plan, plan_more, plan_stopped}
use Rattle.steps.proofs.plan_with.Goals as goal

pub loop-s-init : goal.loop-s-init
loop-s-init c =
    let r = c.args.reliabilities.now in
    (c.requires.1 ∙ sym (plan_zero r), done_zero r, c.lay_leaders.ensures)

pub step-requires : goal.step-requires
step-requires c =
    let r = c.args.reliabilities.now in
    let is = c.loop-s.invariant.0 in
    (beside_plan (code_on c.args.alphabet) c.args.n c.loop-s.s r c.loop-s.multiplicities c.requires.0 is, λ j. rw is (plan_low r c.loop-s.s j), c.loop-s.invariant.2)

-- The step has raised nothing: the plan stops at s, and no later step is done or changes it.
pub returns-then-step : goal.returns-then-step
returns-then-step c =
    let ended = plan_stopped _ _ _ _ _ c.loop-s.invariant.0 c.loop-s.invariant.1 c.step.ensures.stopped c.step.ensures.memory c.if-step.true c.args.steps (omega arith) in
    record { done = ended.0; memory = ended.1 }

pub loop-s-preserved : goal.loop-s-preserved
loop-s-preserved c =
    let more = plan_more _ _ _ _ _ c.loop-s.invariant.0 c.loop-s.invariant.1 c.step.ensures.stopped c.step.ensures.memory c.if-step.false in
    (more.0, more.1, c.step.ensures.led)
