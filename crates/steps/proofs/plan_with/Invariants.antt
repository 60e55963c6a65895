use Rattle.std.proofs.Common.{◌≡◌}
use Rattle.alphabet.specs.Codes.{code_on}
use Rattle.definitions.specs.Planning.{plan, steps_done}
use Rattle.plans.specs.Leads.{Led}
use Rattle.steps.proofs.plan_with.Given as goal

-- The memory holds the plan of s steps, all of them done, and the columns have their leaders.
abbrev pub invariant-loop-s : goal.invariant-loop-s
invariant-loop-s l =
    (l.multiplicities ≡ plan l.reliabilities l.s) × (steps_done l.reliabilities l.s ≡ l.s) × Led (code_on l.alphabet) l.reliabilities l.multiplicities l.n l.leaders
