-- What the lines of a degree limit and of its coefficients' number come to: where the degree says that there are too many, and by the count.
-- Assumes nothing.
use mathlib.Core.Bool.{not}
use mathlib.Core.Path.{◌≡◌, refl, sym, ◌∙◌, ap}
use Prim.Native.Nat.{ℕ, ◌≤◌, ◌<◌}
use lib.Dec.{eqb, ltb}
use Rattle.std.specs.Prelude.{Result, Ok}
use Rattle.bound.proofs.Degree as bound
use Rattle.definitions.specs.Bound.{count}
use Rattle.definitions.specs.Limits.{greatest_count}
use Rattle.definitions.specs.Refusals.{line}
use Rattle.proposals.specs.Lines.{limited, stated}
use Rattle.refusals.specs.Checked.{Outcome, passed, refused_at, or_line, told_checked}
use Rattle.refusals.specs.declared.Refusal.{Refusal}

module _ {T : Type 0} (c : Result T Refusal) (t : T) (e : c ≡ Ok t) (v D given : ℕ) where
  pub too_many : 0 < v → greatest_count ≤ D → refused_at 2 0 ≡ or_line (or_line (told_checked c) (limited v D)) (stated v D given)
  too_many pos many = rw (e, bound.too_many v D pos many) refl

  pub by_count : (x : ℕ) → x ≡ count v D → {o p : Outcome} → o ≡ or_line passed (line 2 (ltb greatest_count x)) → p ≡ or_line o (line 3 (not (eqb given x)))
      → p ≡ or_line (or_line (told_checked c) (limited v D)) (stated v D given)
  by_count x is {o} first second =
      second ∙ ap (λ (y : ℕ). or_line o (line 3 (not (eqb given y)))) is
      ∙ ap (λ (q : Outcome). or_line q (stated v D given))
      (first ∙ ap (λ (y : ℕ). or_line passed (line 2 (ltb greatest_count y))) is ∙ ap (λ (r : Result T Refusal). or_line (told_checked r) (limited v D)) (sym e))
