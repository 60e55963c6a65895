use Rattle.alphabet.specs.Codes.{code_on}
use Rattle.plans.specs.Leads.{Led}
use Rattle.steps.proofs.lay_leaders.Given as goal

-- The first i columns have their leaders.
abbrev pub invariant-loop-i : goal.invariant-loop-i
invariant-loop-i l = Led (code_on l.alphabet) l.reliabilities l.multiplicities l.i l.leaders
