-- Document 02, order 4: the part that the second call hands back.
-- Assumes nothing.
use Rattle.std.specs.Prelude.{Bool, cond, List, ℕ, eqb, take}
use Rattle.std.specs.Borrow.{Bor}
use Rattle.counter.specs.Judging.{to_open, of_judged, judge_answer, both_answer}
use Rattle.counter.specs.declared.Settings.{Settings}
use Rattle.definitions.specs.Answers.{Answer}
use Rattle.definitions.specs.Field.{Code}

-- a part of memory: where it begins, and what lies there
abbrev pub Part : Type 0
Part = (ℕ × ℕ) × List ℕ

abbrev pub part_at : Bor (List ℕ) → Part
part_at r = (r.ref_ptr, r.now)

-- the first k symbols of a list, where they lie
abbrev pub front : ℕ → Bor (List ℕ) → Part
front k rows = (rows.ref_ptr, take k rows.now)

abbrev pub is_open : Answer → Bool
is_open answer = eqb answer.value to_open

-- "On Open .. the part of whichever list holds the row, the judged one's first; otherwise, refusals included, an empty part of the first"
module _ (C : Code) where
  abbrev pub opened : ℕ → Bor (List ℕ) → List ℕ → ℕ → Part
  opened k rows scores g = cond (is_open (judge_answer C k rows.now scores g)) (front k rows) (front 0 rows)

  abbrev pub both_opened : Settings → Bor (List ℕ) → List ℕ → Settings → Bor (List ℕ) → List ℕ → ℕ → Part
  both_opened s rows scores t others other_scores g =
      cond (is_open (both_answer C s rows.now scores t others.now other_scores g))
      (front s.k (of_judged scores rows others)) (front 0 rows)
