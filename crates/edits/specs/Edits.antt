-- What an edit leaves of a record that is lent in parts.
-- Assumes nothing.
use Rattle.std.specs.Prelude.{Option, List, ◌∷◌, ◌≡◌, ℕ, ◌+◌, ◌≤◌, ◌<◌, length, get_or}
use Rattle.definitions.specs.Answers.{Answer}
use Rattle.definitions.specs.Editing.{edited, edit_answer, lowest_above}
use Rattle.definitions.specs.Field.{Code}
use Rattle.definitions.specs.Held.{Held, places}
use Rattle.definitions.specs.Limits.{greatest_level}
use Rattle.definitions.specs.Refusals.{Line}
use Rattle.refusals.specs.Found.{Found}

-- what a table makes of an edit: the answer and both parts
pub record Edits (table : List Line) (before after : Held) (answer : Answer) (totals entries : List ℕ) : Type 0 where
  pub answered : answer ≡ edit_answer table after
  pub totals_are : totals ≡ (edited table before after).totals
  pub entries_are : entries ≡ (edited table before after).entries

-- the lowest place of an entry above 5 in these entries or in others, of any code that has as many places
abbrev pub Lowest : List ℕ → List (List ℕ) → Option ℕ → Type 0
Lowest e es r = (C : Code) → length e ≡ places C → Found (lowest_above C (e ∷ es)) (places C) r

-- no entry of the sum is above 5
abbrev pub LowSum : List ℕ → List ℕ → Type 0
LowSum d e = (j : ℕ) → j < length d → get_or d j 0 + get_or e j 0 ≤ greatest_level
