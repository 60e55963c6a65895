-- Document 02, order 4: one list judged, and two judged together.
-- Assumes nothing.
use Rattle.std.specs.Prelude.{Bool, cond, not, ◌&&◌, List, [], ◌∷◌, ℕ, ◌+◌, eqb, leb, length}
use Rattle.counter.specs.declared.Settings.{Settings}
use Rattle.definitions.specs.Answers.{Answer, refused, valued}
use Rattle.definitions.specs.Field.{Code}
use Rattle.definitions.specs.Listing.{row_at}
use Rattle.definitions.specs.Refusals.{Line, line, tried, sizes, size, level, symbols, runs_on}
use Rattle.rows.specs.Rows.{same, list_line}

-- the verdicts as numbers: Open, Ask and Nothing
abbrev pub to_open : ℕ
to_open = 1

abbrev pub to_ask : ℕ
to_ask = 2

abbrev pub nothing : ℕ
nothing = 3

-- "it answers Open if there is one row, or if the first score leads the second by at least g; Nothing for no rows; else Ask"
abbrev pub judged : ℕ → List ℕ → ℕ
judged g [] = nothing
judged g (s ∷ []) = to_open
judged g (s ∷ t ∷ scores) = cond (leb (t + g) s) to_open to_ask

-- "g of 0 is refusal 2"
abbrev pub lead : ℕ → Line
lead g = line 2 (eqb g 0)

-- "unequal settings are refusal 2"
abbrev pub same_settings : Settings → Settings → Bool
same_settings s t = eqb s.n t.n && (eqb s.k t.k && eqb s.level t.level)

abbrev pub settings : Settings → Settings → Line
settings s t = line 2 (not (same_settings s t))

-- "both have rows and their first messages differ"
abbrev pub apart : ℕ → List ℕ → List ℕ → List ℕ → List ℕ → Bool
apart k rows scores others other_scores =
    not (eqb (length scores) 0) && (not (eqb (length other_scores) 0) && not (same (row_at k rows 0) (row_at k others 0)))

-- "the first list, or the second if the first is empty": what is taken of the one that is judged
abbrev pub of_judged : {A : Type 0} → List ℕ → A → A → A
of_judged scores first second = cond (eqb (length scores) 0) second first

-- "Otherwise judge the first list, or the second if the first is empty"
abbrev pub both_judged : ℕ → ℕ → List ℕ → List ℕ → List ℕ → List ℕ → ℕ
both_judged k g rows scores others other_scores =
    cond (apart k rows scores others other_scores) to_ask (judged g (of_judged scores scores other_scores))

module _ (C : Code) where
  -- "Given one list with its k (sizes as for roots) and a lead g"
  abbrev pub judge_table : ℕ → List ℕ → List ℕ → ℕ → List Line
  judge_table k rows scores g = size C k ∷ lead g ∷ list_line k rows scores ∷ symbols C rows ∷ []

  abbrev pub judge_answer : ℕ → List ℕ → List ℕ → ℕ → Answer
  judge_answer k rows scores g = tried (judge_table k rows scores g) refused (valued (judged g scores))

  -- "Of two lists, each with n, k and L": either's fault is a fault, and the second's indexes run on after the first's last
  abbrev pub both_table : Settings → List ℕ → List ℕ → Settings → List ℕ → List ℕ → ℕ → List Line
  both_table s rows scores t others other_scores g =
      sizes C s.n s.k ∷ sizes C t.n t.k ∷ level s.level ∷ level t.level ∷ lead g ∷ settings s t
      ∷ list_line s.k rows scores ∷ list_line t.k others other_scores ∷ symbols C rows ∷ runs_on (length rows) (symbols C others) ∷ []

  abbrev pub both_answer : Settings → List ℕ → List ℕ → Settings → List ℕ → List ℕ → ℕ → Answer
  both_answer s rows scores t others other_scores g =
      tried (both_table s rows scores t others other_scores g) refused (valued (both_judged s.k g rows scores others other_scores))
