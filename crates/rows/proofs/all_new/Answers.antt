-- Row 0 has no row before it, so the loop begins at 1.
use Rattle.std.proofs.Common.{◌≡◌, ◌<◌, ℕ, zero, suc, List, true, sym, ◌∙◌, arith}
use Rattle.definitions.proofs.Every.{every_none, every_of, every_but}
use Rattle.rows.specs.Rows.{is_new}
use Rattle.rows.proofs.all_new.Goals as goal

first_new : (k : ℕ) (rows : List ℕ) (i : ℕ) → i < 1 → is_new k rows i ≡ true
first_new k rows zero h = every_none _
first_new k rows (suc i) h = absurd (omega arith)

pub loop-j-init : goal.loop-j-init
loop-j-init c = first_new _ _

-- Row j is not new, and j is below the count: not all rows are new.
pub returns-then-not-is_new : goal.returns-then-not-is_new
returns-then-not-is_new c = sym (every_but _ _ c.loop-j.j (omega arith) (sym c.is_new.ensures ∙ c.if-not-is_new.true))

-- The loop has ended at the count or above it, so each row below the count is new.
pub returns : goal.returns
returns c = sym (every_of _ _ (λ i h. c.loop-j.invariant i (omega arith)))
