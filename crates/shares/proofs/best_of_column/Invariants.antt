use Rattle.plans.specs.Leads.{Leads}
use Rattle.shares.proofs.best_of_column.Given as goal

-- The place that is kept leads the column's symbols so far.
abbrev pub invariant-loop-place : goal.invariant-loop-place
invariant-loop-place l = Leads l.reliabilities l.multiplicities l.first l.place l.leading
