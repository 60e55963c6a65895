-- The record that an outcome and the parts after it make.
-- Assumes nothing.
use Rattle.std.specs.Prelude.{List, ℕ, Result, Ok, Err}
use Rattle.definitions.specs.Held.{Held, held}
use Rattle.refusals.specs.declared.Refusal.{Refusal}

-- the record of n with the new cost, or the one of the old n and cost
abbrev pub record_after : Result ℕ Refusal → ℕ → ℕ → ℕ → List ℕ → List ℕ → Held
record_after (Ok cost) old_n old_cost n totals entries = held n cost totals entries
record_after (Err _) old_n old_cost n totals entries = held old_n old_cost totals entries
