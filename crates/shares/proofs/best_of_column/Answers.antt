-- A place alone leads itself, so each round has the better of two leaders that lie side by side.
use Rattle.plans.proofs.Leads.{leads_itself, better_leads}
use Rattle.shares.proofs.best_of_column.Goals as goal

pub loop-place-preserved : goal.loop-place-preserved
loop-place-preserved c =
    better_leads _ _ _ _ _ _ _ _ c.loop-place.invariant (leads_itself _ _ c.loop-place.place) c.better-leading.ensures
