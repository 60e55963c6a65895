-- What the table of two lists says of a call that passes it.
-- Assumes nothing.
use mathlib.Core.List.{List}
use mathlib.Core.Bool.{false, ◌&&◌}
use mathlib.Core.Path.{◌≡◌, sym, ◌∙◌, ap}
use Prim.Native.Nat.{ℕ, ◌*◌}
use borrow.Author.Tests.{eqb-true, not-false}
use lib.Dec.{eqb}
use lib.ListN.{length}
use Rattle.counter.specs.Judging.{same_settings, settings, both_table}
use Rattle.counter.specs.declared.Settings.{Settings}
use Rattle.definitions.proofs.Table.{Accepts, next}
use Rattle.definitions.proofs.Tools.{both}
use Rattle.definitions.specs.Field.{Code}
use Rattle.rows.proofs.Rows.{list_line_means}

module _ (C : Code) (s t : Settings) where
  same_k : (settings s t).given ≡ false → t.k ≡ s.k
  same_k e =
      let rest = (both (eqb s.n t.n) (eqb s.k t.k && eqb s.level t.level) (not-false (same_settings s t) e)).1 in
      sym (eqb-true s.k t.k (both (eqb s.k t.k) (eqb s.level t.level) rest).0)

  -- both lists are k symbols a score
  pub both_full : (rows scores others other_scores : List ℕ) (g : ℕ) → Accepts (both_table C s rows scores t others other_scores g)
      → (length rows ≡ s.k * length scores) × (length others ≡ s.k * length other_scores)
  both_full rows scores others other_scores g (next a (next b (next c (next d (next e (next f (next h (next i later)))))))) = (
    list_line_means s.k rows scores h,
    list_line_means t.k others other_scores i ∙ ap (λ (k : ℕ). k * length other_scores) (same_k f),
  )
