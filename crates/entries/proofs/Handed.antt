-- What crosses to C in place of the part tells the part: its first symbols, so many, of that list.
-- Assumes nothing.
use mathlib.Core.Bool.{cond}
use mathlib.Core.List.{List}
use mathlib.Core.Path.{◌≡◌}
use Prim.Native.Nat.{ℕ}
use denote.Ref.{Bor}
use lib.Dec.{eqb}
use lib.ListN.{length}
use Rattle.counter.specs.Judging.{judge_answer, both_answer}
use Rattle.counter.specs.declared.Settings.{Settings}
use Rattle.definitions.proofs.Tools.{split}
use Rattle.definitions.specs.Field.{Code}
use Rattle.crossing.specs.Part.{holder, part_answer}
use Rattle.opening.specs.Handing.{is_open, front, opened, both_opened}

-- list 2 is the second, any other number the first
abbrev numbered : Bor (List ℕ) → Bor (List ℕ) → ℕ → Bor (List ℕ)
numbered rows others number = cond (eqb number 2) others rows

module _ (C : Code) where
  pub part_told : (k : ℕ) (rows : Bor (List ℕ)) (scores : List ℕ) (g : ℕ)
      → opened C k rows scores g ≡ front (part_answer (judge_answer C k rows.now scores g) 1 k).count rows
  part_told k rows scores g = split (is_open (judge_answer C k rows.now scores g)) (λ y. rw y) (λ n. rw n)

  pub both_part_told : (s : Settings) (rows : Bor (List ℕ)) (scores : List ℕ) (t : Settings) (others : Bor (List ℕ)) (other_scores : List ℕ) (g : ℕ)
      → (let told = part_answer (both_answer C s rows.now scores t others.now other_scores g) (holder scores) s.k in
      both_opened C s rows scores t others other_scores g ≡ front told.count (numbered rows others told.value))
  both_part_told s rows scores t others other_scores g =
      split (is_open (both_answer C s rows.now scores t others.now other_scores g))
      (λ y. rw y (split (eqb (length scores) 0) (λ z. rw z) (λ z. rw z)))
      (λ n. rw n)
