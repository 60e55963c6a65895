-- The verdict on a list's scores, by how many there are and by how far the first leads.
-- Assumes nothing.
use mathlib.Core.Bool.{Bool, cond}
use mathlib.Core.List.{List, [], ◌∷◌}
use mathlib.Core.Path.{◌≡◌, refl, sym, ◌∙◌, ap}
use Prim.Native.Nat.{ℕ, ◌+◌, ◌≤◌, ◌<◌}
use native.Mathlib.Nat.{suc-ne-zero, suc_inj}
use native.Mathlib.Omega.{arith}
use borrow.Author.Tests.{le-leb, lt-leb}
use lib.Dec.{leb}
use lib.ListN.{length, get_or}
use Rattle.counter.specs.Judging.{to_open, to_ask, nothing, judged}

module _ (g : ℕ) where
  pub judged_none : (scores : List ℕ) → length scores ≡ 0 → nothing ≡ judged g scores
  judged_none [] e = refl
  judged_none (s ∷ scores) e = absurd (suc-ne-zero (length scores) e)

  pub judged_one : (scores : List ℕ) → length scores ≡ 1 → to_open ≡ judged g scores
  judged_one [] e = absurd (suc-ne-zero 0 (sym e))
  judged_one (s ∷ []) e = refl
  judged_one (s ∷ t ∷ scores) e = absurd (suc-ne-zero (length scores) (suc_inj e))

  -- two or more
  judged_more : (scores : List ℕ) → 2 ≤ length scores → judged g scores ≡ cond (leb (get_or scores 1 0 + g) (get_or scores 0 0)) to_open to_ask
  judged_more [] h = let z : ⊥ = omega arith in absurd z
  judged_more (s ∷ []) h = let z : ⊥ = omega arith in absurd z
  judged_more (s ∷ t ∷ scores) h = refl

  pub judged_leads : (scores : List ℕ) → 2 ≤ length scores → get_or scores 1 0 + g ≤ get_or scores 0 0 → to_open ≡ judged g scores
  judged_leads scores h l = sym (judged_more scores h ∙ ap (λ (b : Bool). cond b to_open to_ask) (le-leb _ _ l))

  pub judged_close : (scores : List ℕ) → 2 ≤ length scores → get_or scores 0 0 < get_or scores 1 0 + g → to_ask ≡ judged g scores
  judged_close scores h l = sym (judged_more scores h ∙ ap (λ (b : Bool). cond b to_open to_ask) (lt-leb _ _ l))

  -- none is opened but of a list with rows
  pub open_some : (scores : List ℕ) → judged g scores ≡ to_open → 1 ≤ length scores
  open_some [] e = let z : ⊥ = omega arith in absurd z
  open_some (s ∷ scores) e = omega arith
