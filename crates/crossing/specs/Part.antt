-- The numbers of a judgement as they cross to C.
-- Assumes nothing.
use Rattle.std.specs.Prelude.{cond, List, ℕ}
use Rattle.counter.specs.Judging.{of_judged}
use Rattle.counter.specs.declared.Settings.{Settings}
use Rattle.definitions.specs.Answers.{Answer}
use Rattle.crossing.specs.declared.judgements.Judgement as crossing
use Rattle.opening.specs.Handing.{is_open}

-- field by field
abbrev pub judgement_of : crossing.Judgement → Answer
judgement_of j = record { number = j.number; place = j.place; count = j.count; value = j.value; cost = 0; bound = 0 }

abbrev pub settings_of : ℕ → ℕ → ℕ → Settings
settings_of n k level = record { n = n; k = k; level = level }

-- the number of the list that is judged
abbrev pub holder : List ℕ → ℕ
holder scores = of_judged scores 1 2

-- in place of the part: on Open the list that holds the row, and its count of symbols; otherwise 0 and 0
abbrev pub part_answer : Answer → ℕ → ℕ → Answer
part_answer verdict list k =
    record { number = verdict.number; place = verdict.place; count = cond (is_open verdict) k 0; value = cond (is_open verdict) list 0; cost = 0; bound = 0 }
