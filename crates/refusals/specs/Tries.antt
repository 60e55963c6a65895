-- A line of a table that is tried.
-- Assumes nothing.
use Rattle.std.specs.Prelude.{Bool, true, false, ◌≡◌, Result, Ok, Err}
use Rattle.definitions.specs.Answers.{refused}
use Rattle.definitions.specs.Refusals.{Line}
use Rattle.refusals.specs.Refusal.{told_refusal}
use Rattle.refusals.specs.declared.Refusal.{Refusal}

-- the line of a refusal, given where the test is bad
abbrev pub line_of : Bool → Refusal → Line
line_of bad r = record { number = (told_refusal r).number; given = bad; place = (told_refusal r).place }

-- it is passed, or it is given, and the refusal has its number and place
abbrev pub Tries : {T : Type 0} → Line → Result T Refusal → Type 0
Tries l (Ok _) = l.given ≡ false
Tries l (Err r) = (l.given ≡ true) × (told_refusal r ≡ refused l.number l.place)
