use Rattle.std.proofs.Common.{arith}
use Rattle.edits.proofs.Lowest.{found_sum, none_sum}
use Rattle.edits.proofs.lowest_sum.Goals as goal

-- The sum at j is above 5, and none before it is.
pub returns-then-from-gt-GREATEST_LEVEL : goal.returns-then-from-gt-GREATEST_LEVEL
returns-then-from-gt-GREATEST_LEVEL c = found_sum _ _ _ (omega arith) c.loop-j.invariant (omega arith)

-- The loop has passed all places: no sum is above 5.
pub returns : goal.returns
returns c = none_sum _ _ (λ t h. c.loop-j.invariant t (omega arith))
