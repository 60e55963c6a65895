-- "A matrix that is edited" (document 02, order 5): what holds after any sequence of edits, as one statement of the definitions.
-- Assumes nothing.
use Rattle.std.specs.Prelude.{true, List, [], ◌∷◌, ◌≢◌, ◌≡◌, ℕ, ◌≤◌, get_or}
use Rattle.definitions.specs.Answers.{Answer}
use Rattle.definitions.specs.Editing.{fresh_held, bytes_held, set_answer, set_held, clear_answer, clear_held, add_answer, add_held}
use Rattle.definitions.specs.Field.{Code}
use Rattle.definitions.specs.Held.{Held, held_of, rightly}
use Rattle.definitions.specs.Limits.{greatest_level}

-- "set one entry, clear a column, add another matrix entry by entry": any record may be added
pub data Edit : Type 0 where
  setting : ℕ → ℕ → ℕ → Edit
  clearing : ℕ → Edit
  adding : Held → Edit

module _ (C : Code) where
  -- what an edit answers, and the record after it, accepted or refused
  abbrev pub answer_to : Held → Edit → Answer
  answer_to h (setting i b x) = set_answer C h i b x
  answer_to h (clearing i) = clear_answer C h i
  answer_to h (adding o) = add_answer C h o

  abbrev pub after : Held → Edit → Held
  after h (setting i b x) = set_held C h i b x
  after h (clearing i) = clear_held C h i
  after h (adding o) = add_held C h o

  -- one edit after the other
  unfoldable pub after_all : Held → List Edit → Held
  after_all h [] = h
  after_all h (e ∷ edits) = after_all (after h e) edits

  -- a record that no call refuses for what it holds
  pub record Sound (h : Held) : Type 0 where
    -- "the stored numbers equal those defined by the entries"
    pub stored : h ≡ held_of C h.n h.entries
    -- and none of: "an n outside 2 to 15", "an entry above 5", "a nonzero entry in an unused column"
    pub sized : (2 ≤ h.n) × (h.n ≤ C.positions)
    pub low : (j : ℕ) → get_or h.entries j 0 ≤ greatest_level
    pub right : rightly C h ≡ true

pub record EditLaws (C : Code) : Type 0 where
  -- "After any sequence, the stored numbers equal those defined by the entries": from a fresh record, and from one that was turned from bytes
  pub after_any_sequence : 2 ≤ C.positions → (n : ℕ) (edits : List Edit) → Sound C (after_all C (fresh_held C n) edits)
  pub after_any_sequence_of_bytes : 2 ≤ C.positions → (n : ℕ) (m : List ℕ) (edits : List Edit) → Sound C (after_all C (bytes_held C n m) edits)
  -- "No accepted call hands out a record whose stored numbers are wrong", whatever record it is handed
  pub accepted_sound : (h : Held) (e : Edit) → (answer_to C h e).number ≡ 0 → Sound C (after C h e)
  -- "A refusal answers the record that went in, the first of two"
  pub refused_stays : (h : Held) (e : Edit) → (answer_to C h e).number ≢ 0 → after C h e ≡ h
  -- "A record keeps its n"
  pub keeps_n : (h : Held) (e : Edit) → (after C h e).n ≡ h.n
