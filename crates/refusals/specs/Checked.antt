-- What the lines of a table that were tried have come to, and what one line more makes of it.
-- Assumes nothing.
use Rattle.std.specs.Prelude.{cond, ℕ, Result, Ok, Err}
use Rattle.definitions.specs.Refusals.{Line}
use Rattle.refusals.specs.Refusal.{told_refusal}
use Rattle.refusals.specs.declared.Refusal.{Refusal}

-- no line so far is given, or the first that is has this number and place
pub data Outcome : Type 0 where
  passed : Outcome
  refused_at : ℕ → ℕ → Outcome

abbrev pub or_line : Outcome → Line → Outcome
or_line passed l = cond l.given (refused_at l.number l.place) passed
or_line (refused_at number place) l = refused_at number place

abbrev pub told_checked : {T : Type 0} → Result T Refusal → Outcome
told_checked (Ok _) = passed
told_checked (Err r) = refused_at (told_refusal r).number (told_refusal r).place
