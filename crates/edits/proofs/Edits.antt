-- What a table makes of an edit: through its front, and by its last line.
-- Assumes nothing.
use mathlib.Core.Bool.{false}
use Rattle.std.proofs.Common.{Some, None}
use mathlib.Core.List.{List, [], ◌∷◌}
use mathlib.Core.Path.{◌≡◌, ◌∙◌, ap}
use Prim.Native.Nat.{ℕ}
use borrow.Author.Tests.{lt-ltb, le-ltb}
use Rattle.definitions.specs.Answers.{Answer, refused, costed}
use Rattle.definitions.specs.Editing.{lowest_above, in_or_out}
use Rattle.definitions.specs.Field.{Code}
use Rattle.definitions.specs.Held.{Held, places, totals_of, held_of}
use Rattle.definitions.specs.Weights.{cost}
use Rattle.definitions.specs.Refusals.{Line}
use Rattle.edits.specs.Edits.{Edits}
use Rattle.refusals.proofs.Chain.{Came, goes_on}
use Rattle.refusals.specs.Found.{Found}

-- through lines that are passed the rest decides
pub edit_goes_on : {table rest : List Line} (before after : Held) → Came table rest → {answer : Answer} {totals entries : List ℕ} → Edits rest before after answer totals entries
    → Edits table before after answer totals entries
edit_goes_on before after came d =
    let on = goes_on (λ _ _. before) after came in
    record {
      answered = d.answered ∙ goes_on refused (costed after.cost 0) came;
      totals_are = d.totals_are ∙ ap (λ (h : Held). h.totals) on;
      entries_are = d.entries_are ∙ ap (λ (h : Held). h.entries) on;
    }

-- with no line left: the record of entries that were counted
pub edit_counted : (C : Code) (before : Held) (n : ℕ) (e : List ℕ) {price : ℕ} {totals entries : List ℕ} → price ≡ cost e → totals ≡ totals_of C e → entries ≡ e
    → Edits [] before (held_of C n e) (costed price 0) totals entries
edit_counted C before n e ec et ee = record { answered = ap (λ (x : ℕ). costed x 0) ec; totals_are = et; entries_are = ee }

-- by the line for entries above 5, whose place is looked for
module _ (C : Code) (es : List (List ℕ)) (before after : Held) where
  pub above_refused : (bad : ℕ) → Found (lowest_above C es) (places C) (Some bad) → Edits (in_or_out C es ∷ []) before after (refused 5 bad) before.totals before.entries
  above_refused bad f =
      let given = lt-ltb (lowest_above C es) (places C) f.1 in
      record { answered = rw given (ap (refused 5) f.0); totals_are = rw given; entries_are = rw given }

  pub not_given : Found (lowest_above C es) (places C) None → (in_or_out C es).given ≡ false
  not_given = le-ltb (lowest_above C es) (places C)

  pub none_above_done : Found (lowest_above C es) (places C) None → (cost : ℕ) (totals entries : List ℕ) → cost ≡ after.cost → totals ≡ after.totals → entries ≡ after.entries
      → Edits (in_or_out C es ∷ []) before after (costed cost 0) totals entries
  none_above_done none cost totals entries ec et ee =
      let given = not_given none in
      record { answered = rw given (ap (λ (x : ℕ). costed x 0) ec); totals_are = rw given et; entries_are = rw given ee }
