-- What the numbers of an edit's answer tell is the answer, and a record is what it holds.
-- Assumes nothing.
use mathlib.Core.Path.{◌≡◌, refl, sym, ◌∙◌, ap, ap₂}
use Rattle.definitions.specs.Answers.{Answer, costed}
use Rattle.definitions.specs.Held.{Held}
use Rattle.editing.specs.declared.Edited.{Edited}
use Rattle.edits.specs.Priced.{told_priced}
use Rattle.refusals.specs.declared.Refusal.{Refusal}
use Rattle.std.specs.Prelude.{ℕ, Result}
use Rattle.matrix.specs.Record.{held_by}
use Rattle.matrix.specs.declared.Matrix.{Matrix}
use Rattle.refusals.proofs.Unique.{one_told}

pub one_priced : {x y : Result ℕ Refusal} {a : Answer} → told_priced x ≡ a → told_priced y ≡ a → x ≡ y
one_priced = one_told (λ cost. costed cost 0) (λ a. a.cost) (λ _. refl) (λ _. refl)

one_record : {x y : Matrix} {h : Held} → held_by x ≡ h → held_by y ≡ h → x ≡ y
one_record p q = ap back (p ∙ sym q)
  where
    back : Held → Matrix
    back h = record { n = h.n; cost = h.cost; totals = h.totals; entries = h.entries }

-- so are the outcome and the record of an edit by value
pub one_edited : {x y : Edited} {a : Answer} {h : Held} → (told_priced x.outcome ≡ a) × (held_by x.matrix ≡ h)
    → (told_priced y.outcome ≡ a) × (held_by y.matrix ≡ h) → x ≡ y
one_edited p q = ap₂ (λ (o : Result ℕ Refusal) (m : Matrix). record { outcome = o; matrix = m }) (one_priced p.0 q.0) (one_record p.1 q.1)
