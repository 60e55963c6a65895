-- The part that is handed back has k symbols exactly where the verdict is Open, and is empty otherwise.
-- Assumes nothing.
use mathlib.Core.Bool.{Bool, true, false}
use mathlib.Core.List.{List}
use mathlib.Core.Path.{◌≡◌}
use Prim.Native.Nat.{ℕ, ◌≤◌}
use borrow.Author.Tests.{eqb-true, eqb-false}
use denote.Ref.{Bor}
use lib.Dec.{eqb}
use lib.ListN.{length}
use lib.Seq.{length-take-le}
use Rattle.opening.proofs.Opening.{row_there, row_in_judged, open_sized, both_open_sized}
use Rattle.opening.specs.Handing.{is_open, opened, both_opened}
use Rattle.counter.specs.Judging.{judge_answer, both_answer}
use Rattle.counter.specs.declared.Settings.{Settings}
use Rattle.definitions.proofs.Tools.{split}
use Rattle.definitions.specs.Field.{Code}

-- a part of so many symbols, after a verdict
pub record Sized (opens : Bool) (k size : ℕ) : Type 0 where
  pub row : opens ≡ true → (size ≡ k) × (2 ≤ k)
  pub none : opens ≡ false → size ≡ 0

module _ (C : Code) where
  pub part_sized : (k : ℕ) (rows : Bor (List ℕ)) (scores : List ℕ) (g : ℕ)
      → Sized (is_open (judge_answer C k rows.now scores g)) k (length (opened C k rows scores g).1)
  part_sized k rows scores g = record {
    row = λ y. (rw y (length-take-le k rows.now (row_there C k rows.now scores g y)), (open_sized C k rows.now scores g y).0);
    none = λ n. rw n;
  }

  module _ (s : Settings) (rows : Bor (List ℕ)) (scores : List ℕ) (t : Settings) (others : Bor (List ℕ)) (other_scores : List ℕ) (g : ℕ) where
    -- the row lies in the list that is judged
    row_size : is_open (both_answer C s rows.now scores t others.now other_scores g) ≡ true → length (both_opened C s rows scores t others other_scores g).1 ≡ s.k
    row_size y =
        let there = row_in_judged C s rows.now scores t others.now other_scores g y in
        rw y
        (split (eqb (length scores) 0) (λ z. rw z (length-take-le s.k others.now (there.0 (eqb-true (length scores) 0 z))))
        (λ z. rw z (length-take-le s.k rows.now (there.1 (eqb-false (length scores) 0 z)))))

    pub both_part_sized : Sized (is_open (both_answer C s rows.now scores t others.now other_scores g)) s.k (length (both_opened C s rows scores t others other_scores g).1)
    both_part_sized = record {
      row = λ y. (row_size y, (both_open_sized C s rows.now scores t others.now other_scores g y).0);
      none = λ n. rw n;
    }
