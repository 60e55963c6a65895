-- What the library's lists write is never refused as 3 or 5 at the counter, and a single row is opened whatever the lead.
-- Assumes nothing.
use mathlib.Core.Bool.{false}
use mathlib.Core.List.{List}
use mathlib.Core.Path.{◌≡◌, sym, ◌∙◌, ap}
use Prim.Native.Nat.{ℕ, ◌≤◌, ◌<◌}
use native.Mathlib.Omega.{arith}
use borrow.Author.Tests.{ne_eqb}
use lib.ListN.{length}
use Rattle.counter.proofs.Beside.{equal_settings}
use Rattle.counter.proofs.Judging.{judged_one}
use Rattle.counter.specs.Judging.{to_open, judged, lead, both_judged, judge_answer, both_answer}
use Rattle.counter.specs.declared.Settings.{Settings}
use Rattle.definitions.proofs.Table.{next, end, accepts}
use Rattle.definitions.specs.Answers.{Answer, refused, valued}
use Rattle.definitions.specs.Field.{Code}
use Rattle.definitions.specs.Listing.{above}
use Rattle.definitions.specs.Refusals.{sizes, size, level}
use Rattle.rows.proofs.Written.{rows_written, scores_written, above_listed, above_symbols, many_written}

lead_some : (g : ℕ) → 1 ≤ g → (lead g).given ≡ false
lead_some g h = ne_eqb g 0 (λ e. let z : ⊥ = omega arith in z)

-- one list, of any matrix and threshold, as it stands in the lists that were lent
module _ (C : Code) (pos : 0 < C.symbols) (n k g : ℕ) (some : 1 ≤ g) (m : List ℕ) (t : ℕ) (rows_lent scores_lent : List ℕ) (fits : (size C k).given ≡ false) where
  abbrev verdict : Answer
  verdict = judge_answer C k (rows_written C pos n k m t rows_lent scores_lent) (scores_written C pos n k m t rows_lent scores_lent) g

  pub list_judged : verdict ≡ valued (judged g (scores_written C pos n k m t rows_lent scores_lent))
  list_judged =
      sym (accepts refused (valued (judged g (scores_written C pos n k m t rows_lent scores_lent)))
      (next fits (next (lead_some g some) (next (above_listed C pos n k m t rows_lent scores_lent) (next (above_symbols C pos n k m t rows_lent scores_lent) end)))))

  pub one_row_opens : length (above C n k m t) ≡ 1 → verdict ≡ valued to_open
  one_row_opens one =
      list_judged ∙ ap valued (sym (judged_one g (scores_written C pos n k m t rows_lent scores_lent) (many_written C pos n k m t rows_lent scores_lent ∙ one)))

-- two lists of the same settings, of any two matrices
module _ (C : Code) (pos : 0 < C.symbols) (s : Settings) (g : ℕ) (some : 1 ≤ g) (m o : List ℕ) (t u : ℕ) (rows_lent scores_lent others_lent other_scores_lent : List ℕ) where
  abbrev rows : List ℕ
  rows = rows_written C pos s.n s.k m t rows_lent scores_lent

  abbrev scores : List ℕ
  scores = scores_written C pos s.n s.k m t rows_lent scores_lent

  abbrev others : List ℕ
  others = rows_written C pos s.n s.k o u others_lent other_scores_lent

  abbrev other_scores : List ℕ
  other_scores = scores_written C pos s.n s.k o u others_lent other_scores_lent

  pub lists_judged : (sizes C s.n s.k).given ≡ false → (level s.level).given ≡ false
      → both_answer C s rows scores s others other_scores g ≡ valued (both_judged s.k g rows scores others other_scores)
  lists_judged fits levels =
      sym (accepts refused (valued (both_judged s.k g rows scores others other_scores))
      (next fits (next fits (next levels (next levels (next (lead_some g some) (next (equal_settings C s fits levels)
      (next (above_listed C pos s.n s.k m t rows_lent scores_lent) (next (above_listed C pos s.n s.k o u others_lent other_scores_lent)
      (next (above_symbols C pos s.n s.k m t rows_lent scores_lent) (next (above_symbols C pos s.n s.k o u others_lent other_scores_lent) end)))))))))))
