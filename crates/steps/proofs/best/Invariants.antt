use Rattle.std.proofs.Common.{◌+◌, ◌*◌}
use Rattle.alphabet.specs.Codes.{code_on}
use Rattle.plans.specs.Leads.{Leads}
use Rattle.steps.proofs.best.Given as goal

-- The place that is kept leads the columns of the leaders so far, the first one's too.
abbrev pub invariant-loop-leader : goal.invariant-loop-leader
invariant-loop-leader l = Leads l.reliabilities l.multiplicities 0 ((code_on l.fn.alphabet).symbols * (l.leader-index + 1)) l.leading
