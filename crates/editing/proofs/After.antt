-- The record that comes of an outcome and of the parts after it is the one that the table makes.
-- Assumes nothing.
use mathlib.Core.Bool.{true, not}
use mathlib.Core.List.{List, [], ◌∷◌}
use mathlib.Core.Path.{◌≡◌, refl, sym, ◌∙◌, ap, ap₂}
use Prim.Native.Nat.{ℕ}
use borrow.Author.Tests.{eqb-false, not-true}
use lib.Dec.{eqb}
use lib.ListN.{replicate}
use Rattle.definitions.proofs.Held.{cost_none, totals_none}
use Rattle.definitions.proofs.Table.{numbered}
use Rattle.definitions.proofs.Tools.{split, both}
use Rattle.definitions.specs.Answers.{Answer, refused, costed}
use Rattle.definitions.specs.Editing.{edited, edit_answer, no_matrix}
use Rattle.definitions.specs.Field.{Code}
use Rattle.definitions.specs.Held.{Held, held, no_entries}
use Rattle.definitions.specs.Refusals.{Line}
use Rattle.editing.specs.After.{record_after}
use Rattle.editing.specs.declared.Edited.{Edited}
use Rattle.edits.specs.Priced.{told_priced}
use Rattle.refusals.specs.declared.Refusal.{Refusal}
use Rattle.std.specs.Prelude.{Result, Ok, Err}
use Rattle.matrix.specs.Record.{held_by}
use Rattle.refusals.proofs.Unique.{refusal_number}

-- what is promised of an outcome with the whole record
abbrev RecordEdited : List Line → Held → Held → Edited → Type 0
RecordEdited table before after r = (told_priced r.outcome ≡ edit_answer table after) × (held_by r.matrix ≡ edited table before after)

module _ (before after : Held) (outcome : Result ℕ Refusal) (totals entries : List ℕ) where
  -- nothing is refused
  accepted : told_priced outcome ≡ costed after.cost 0 → totals ≡ after.totals → entries ≡ after.entries
      → record_after outcome before.n before.cost after.n totals entries ≡ after
  accepted = by_cases outcome
    where
      by_cases : (o : Result ℕ Refusal) → told_priced o ≡ costed after.cost 0 → totals ≡ after.totals → entries ≡ after.entries → record_after o before.n before.cost after.n totals entries ≡ after
      by_cases (Ok cost) e et ee =
          ap (λ (c : ℕ). held after.n c totals entries) (ap (λ (a : Answer). a.cost) e) ∙ ap₂ (held after.n after.cost) et ee
      by_cases (Err r) e et ee = absurd (refusal_number r (ap (λ (a : Answer). a.number) e))

  -- a line that has a number refuses
  stopped : (number place : ℕ) → not (eqb number 0) ≡ true → told_priced outcome ≡ refused number place → totals ≡ before.totals → entries ≡ before.entries
      → record_after outcome before.n before.cost after.n totals entries ≡ before
  stopped number place some = by_cases outcome
    where
      by_cases : (o : Result ℕ Refusal) → told_priced o ≡ refused number place → totals ≡ before.totals → entries ≡ before.entries → record_after o before.n before.cost after.n totals entries ≡ before
      by_cases (Ok cost) e et ee = absurd (eqb-false number 0 (not-true (eqb number 0) some) (sym (ap (λ (a : Answer). a.number) e)))
      by_cases (Err r) e et ee = ap₂ (held before.n before.cost) et ee

  pub record_is : (table : List Line) → numbered table ≡ true → told_priced outcome ≡ edit_answer table after → totals ≡ (edited table before after).totals
      → entries ≡ (edited table before after).entries → record_after outcome before.n before.cost after.n totals entries ≡ edited table before after
  record_is [] some e et ee = accepted e et ee
  record_is (l ∷ table) some e et ee =
      let b = both (not (eqb l.number 0)) (numbered table) some in
      split l.given (λ g. rw g (stopped l.number l.place b.0 (rw g at e) (rw g at et) (rw g at ee)))
      (λ g. rw g (record_is table b.1 (rw g at e) (rw g at et) (rw g at ee)))

  -- the record that is put together of the outcome and its parts
  pub record_promised : (table : List Line) → numbered table ≡ true → {r : Edited}
      → (r.outcome ≡ outcome) × (held_by r.matrix ≡ record_after outcome before.n before.cost after.n totals entries)
      → told_priced outcome ≡ edit_answer table after → totals ≡ (edited table before after).totals → entries ≡ (edited table before after).entries
      → RecordEdited table before after r
  record_promised table some whole e et ee = (ap told_priced whole.0 ∙ e, whole.1 ∙ record_is table some e et ee)

-- of a record that was refused only the parts count
pub totals_kept : (table : List Line) (before other after : Held) → before.totals ≡ other.totals → (edited table before after).totals ≡ (edited table other after).totals
totals_kept [] before other after e = refl
totals_kept (l ∷ table) before other after e = split l.given (λ g. rw g e) (λ g. rw g (totals_kept table before other after e))

pub entries_kept : (table : List Line) (before other after : Held) → before.entries ≡ other.entries → (edited table before after).entries ≡ (edited table other after).entries
entries_kept [] before other after e = refl
entries_kept (l ∷ table) before other after e = split l.given (λ g. rw g e) (λ g. rw g (entries_kept table before other after e))

-- a record that is made anew: where it is refused, of zeros alone
module _ (C : Code) (n : ℕ) (after : Held) (sized : after.n ≡ n) (outcome : Result ℕ Refusal) (totals entries : List ℕ) where
  pub made_is : (table : List Line) → numbered table ≡ true → (none : List ℕ) → none ≡ replicate C.positions 0 → told_priced outcome ≡ edit_answer table after
      → totals ≡ (edited table (held n 0 none (no_entries C)) after).totals → entries ≡ (edited table (held n 0 none (no_entries C)) after).entries
      → record_after outcome 2 0 n totals entries ≡ edited table (no_matrix C) after
  made_is table some none en e et ee =
      ap₂ (λ (c m : ℕ). record_after outcome 2 c m totals entries) (sym (cost_none C)) (sym sized)
      ∙ record_is (no_matrix C) after outcome totals entries table some e
      (et ∙ totals_kept table (held n 0 none (no_entries C)) (no_matrix C) after (en ∙ sym (totals_none C)))
      (ee ∙ entries_kept table (held n 0 none (no_entries C)) (no_matrix C) after refl)

  pub made_promised : (table : List Line) → numbered table ≡ true → (none : List ℕ) → none ≡ replicate C.positions 0 → {r : Edited}
      → (r.outcome ≡ outcome) × (held_by r.matrix ≡ record_after outcome 2 0 n totals entries)
      → told_priced outcome ≡ edit_answer table after → totals ≡ (edited table (held n 0 none (no_entries C)) after).totals
      → entries ≡ (edited table (held n 0 none (no_entries C)) after).entries → RecordEdited table (no_matrix C) after r
  made_promised table some none en whole e et ee = (ap told_priced whole.0 ∙ e, whole.1 ∙ made_is table some none en e et ee)
