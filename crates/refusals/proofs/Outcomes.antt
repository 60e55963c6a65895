-- What a check promises is one line more of its table, and a function whose checks are the lines of a table in turn has tried the table.
-- Assumes nothing.
use mathlib.Core.Bool.{true, false}
use mathlib.Core.List.{List, [], ◌∷◌}
use mathlib.Core.Path.{◌≡◌, refl, sym, ◌∙◌, ap}
use Prim.Native.Nat.{ℕ, ◌≤◌, ◌<◌}
use borrow.Author.Tests.{lt-ltb, le-ltb}
use lib.Dec.{ltb}
use Rattle.std.specs.Prelude.{Result, Ok, Err}
use Rattle.definitions.proofs.Table.{stop}
use Rattle.definitions.specs.Answers.{Answer, refused}
use Rattle.definitions.specs.Refusals.{Line, tried}
use Rattle.refusals.proofs.Chain.{Came, onward}
use Rattle.refusals.proofs.Chained.{Came as CameTo, ◌▸◌, verdict_tried}
use Rattle.refusals.specs.Checked.{passed, refused_at, or_line, told_checked}
use Rattle.refusals.specs.Refusal.{told_refusal}
use Rattle.refusals.specs.Tries.{Tries}
use Rattle.refusals.specs.declared.Refusal.{Refusal}

-- a refusal is told by its number and place
refused_there : (r : Refusal) (number place : ℕ) → told_refusal r ≡ refused number place
    → refused_at (told_refusal r).number (told_refusal r).place ≡ refused_at number place
refused_there r number place e = ap (λ (a : Answer). refused_at a.number a.place) e

-- a check that tries a line has come to what the line makes of passed lines
pub one_line : {T : Type 0} (l : Line) (r : Result T Refusal) → Tries l r → told_checked r ≡ or_line passed l
one_line l (Ok _) e = rw e refl
one_line l (Err r) t = rw t.0 (refused_there r l.number l.place t.1)

-- where it lets the call pass, they are passed lines still
pub line_passed : (l : Line) → l.given ≡ false → passed ≡ or_line passed l
line_passed l e = one_line {T = Unit} l (Ok tt) e

-- so where the lines before were passed it takes the chain one line on
pub line_tried : {T : Type 0} {table rest : List Line} (l : Line) (r : Result T Refusal) → CameTo table (l ∷ rest) passed → Tries l r → CameTo table rest (told_checked r)
line_tried l r came t = came ▸ one_line l r t

-- the lines of a table were tried in turn: each was passed, or one is given and is the refusal
pub data Tried (table : List Line) {T : Type 0} : Result T Refusal → Type 0 where
  all : (x : T) → Came table [] → Tried table (Ok x)
  one : (r : Refusal) (l : Line) (rest : List Line) → Came table (l ∷ rest) → (l.given ≡ true) × (told_refusal r ≡ refused l.number l.place) → Tried table (Err r)

-- so what it has come to is what the table gives
pub all_tried : {T : Type 0} {table : List Line} {r : Result T Refusal} → Tried table r → told_checked r ≡ tried table refused_at passed
all_tried {table = table} (all x came) = verdict_tried table passed came
all_tried {table = table} (one r l rest came t) = refused_there r l.number l.place t.1 ∙ verdict_tried table (refused_at l.number l.place) (onward came (stop t.0))

module _ {T : Type 0} (c : Result T Refusal) where
  -- after a refusal it stays
  pub refusal_kept : (l : Line) (r : Refusal) → c ≡ Err r → told_checked {T = T} (Err r) ≡ or_line (told_checked c) l
  refusal_kept l r e = rw e refl

  -- by a search for the first bad index: where one is found, and where none is
  module _ (x : T) (e : c ≡ Ok x) (number first many : ℕ) (place_of : ℕ → ℕ) (found : ℕ) (is_first : found ≡ first) where
    pub bad_found : found < many → refused_at number (place_of found) ≡ or_line (told_checked c) (record { number = number; given = ltb first many; place = place_of first })
    bad_found h = rw (e, sym is_first, lt-ltb found many h) refl

    pub none_found : many ≤ found → passed ≡ or_line (told_checked c) (record { number = number; given = ltb first many; place = place_of first })
    none_found h = rw (e, sym is_first, le-ltb found many h) refl
