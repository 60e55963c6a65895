use Rattle.std.proofs.Common.{◌≡◌, ℕ, ◌<◌, false}
use Rattle.definitions.specs.Listing.{row_at}
use Rattle.rows.specs.Rows.{same}
use Rattle.rows.proofs.is_new.Given as goal

-- No row before row i has the message of row j.
abbrev pub invariant-loop-i : goal.invariant-loop-i
invariant-loop-i l = (t : ℕ) → t < l.i → same (row_at l.k l.rows t) (row_at l.k l.rows l.j) ≡ false
