-- The numbers that document 01 gives to each case of a result.
-- Assumes nothing.
use Rattle.std.specs.Prelude.{ℕ, Result, Ok, Err}
use Rattle.definitions.specs.Answers.{Answer, counted}
use Rattle.refusals.specs.Refusal.{told_refusal}
use Rattle.refusals.specs.declared.Refusal.{Refusal}

-- what is accepted has its own answer, a refusal its number and place
abbrev pub told : {T : Type 0} → (T → Answer) → Result T Refusal → Answer
told accepted (Ok x) = accepted x
told accepted (Err r) = told_refusal r

-- of an entry that counts what it writes
abbrev pub told_counted : Result ℕ Refusal → Answer
told_counted r = told counted r
