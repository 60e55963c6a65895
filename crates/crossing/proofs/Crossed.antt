-- How a list crosses to C: that its rows are few makes its answer fit, and is promised of what C is
-- given too.
-- Assumes nothing.
use mathlib.Core.Path.{◌≡◌, sym, subst}
use Prim.Native.Nat.{◌≤◌}
use Rattle.crossing.proofs.Narrow.{Few}
use Rattle.crossing.specs.Crossing.{Narrow}
use Rattle.definitions.specs.Answers.{Answer}
use Rattle.definitions.specs.Limits.{greatest_rows}

-- the page's answer, what is left in both memories, and few rows
abbrev Listed : Answer → Type 0 → Type 0 → Answer → Type 0
Listed page Rows Scores answer = (answer ≡ page) × (Rows × (Scores × (answer.count ≤ greatest_rows)))

module _ {page told : Answer} where
  pub few_fit : told ≡ page → told.count ≤ greatest_rows → Few page → Narrow told
  few_fit is few fits = rw is (fits (rw is at few))

  pub list_crosses : {Rows Scores : Type 0} {given : Answer} → given ≡ told → Listed page Rows Scores told → Listed page Rows Scores given
  list_crosses {Rows} {Scores} same = subst (Listed page Rows Scores) (sym same)
