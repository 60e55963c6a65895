use Rattle.std.proofs.Common.{arith}
use Rattle.edits.proofs.Lowest.{found_old, found_new, found_least}
use Rattle.edits.proofs.lowest_set.Goals as goal

-- The new entry is not above 5, so the first of the old ones is the lowest.
pub returns-then-entry-le-GREATEST_ENTRY : goal.returns-then-entry-le-GREATEST_ENTRY
returns-then-entry-le-GREATEST_ENTRY c = found_old _ _ _ c.requires (λ _. omega arith) _ c.first_above-first.ensures

-- The new entry is above 5, and the lower of it and the first of the old ones is the lowest.
pub returns-in-Some : goal.returns-in-Some
returns-in-Some c = found_least _ _ _ _ _ c.requires (omega arith) c.in-Some.ensures c.min.ensures

-- It is above 5, and no old one is.
pub returns-in-None : goal.returns-in-None
returns-in-None c = found_new _ _ _ c.requires (omega arith) (omega (arith, c.in-None.ensures))
