-- How a call comes through its table: line after line is passed, and one is given or none is. Whatever the call makes of that, its answer
-- or its memory, is then known.
-- Assumes nothing.
use mathlib.Core.Bool.{Bool, true, false, not, ◌&&◌}
use mathlib.Core.List.{List, [], ◌∷◌, ◌++◌, append-nil}
use mathlib.Core.Path.{◌≡◌, refl, sym, ◌∙◌}
use Prim.Native.Nat.{ℕ, ◌-◌, ◌≤◌, ◌<◌}
use borrow.Author.Tests.{le-leb, leb-true, ltb-true, ltb-false, eqb-true, eqb-false, not-true, not-false}
use native.Mathlib.Omega.{arith}
use lib.Dec.{eqb, leb, ltb}
use lib.ListN.{length, get_or}
use Rattle.definitions.proofs.Refusals.{first_above_lem, none_above_lem}
use Rattle.definitions.proofs.Tools.{split, both}
use Rattle.definitions.specs.Answers.{Answer, refused}
use Rattle.definitions.specs.Bound.{count}
use Rattle.definitions.specs.Code.{Symbols}
use Rattle.definitions.specs.Field.{Code}
use Rattle.definitions.specs.Limits.{greatest_level, greatest_limit, greatest_count}
use Rattle.definitions.specs.Refusals.{Line, tried, sizes_fit, sizes, size_fits, size, level_fits, level, limit, degree, entries, room, first_above, none_above, symbols, cost_within}
use Rattle.definitions.specs.Weights.{cost}

-- the refusal that a table gives: lines are passed, and one is given
pub data Gives : List Line → ℕ → ℕ → Type 0 where
  stop : {l : Line} {table : List Line} → l.given ≡ true → Gives (l ∷ table) l.number l.place
  pass : {l : Line} {table : List Line} {number place : ℕ} → l.given ≡ false → Gives table number place → Gives (l ∷ table) number place

-- a table gives no refusal: every line is passed
pub data Accepts : List Line → Type 0 where
  end : Accepts []
  next : {l : Line} {table : List Line} → l.given ≡ false → Accepts table → Accepts (l ∷ table)

module _ {ℓ} {A : Type ℓ} (refused : ℕ → ℕ → A) (accepted : A) where
  pub gives : {table : List Line} {number place : ℕ} → Gives table number place → refused number place ≡ tried table refused accepted
  gives (stop e) = rw e
  gives (pass e later) = rw e (gives later)

  pub accepts : {table : List Line} → Accepts table → accepted ≡ tried table refused accepted
  accepts end = refl
  accepts (next e later) = rw e (accepts later)

  -- two tables that accept a call make the same of it
  pub both_accept : {table other : List Line} → Accepts table → Accepts other → tried table refused accepted ≡ tried other refused accepted
  both_accept a b = sym (accepts a) ∙ accepts b

-- no line of a table has this number
abbrev pub without : ℕ → List Line → Bool
without number [] = true
without number (l ∷ table) = not (eqb l.number number) && without number table

-- so a call that answers it has passed them all, and has it from the rest
pub passed_front : (number : ℕ) (front rest : List Line) (accepted : Answer) → without number front ≡ true → (tried (front ++ rest) refused accepted).number ≡ number
    → Accepts front × ((tried rest refused accepted).number ≡ number)
passed_front number [] rest accepted other e = (end, e)
passed_front number (l ∷ front) rest accepted other e =
    let b = both (not (eqb l.number number)) (without number front) other in
    split l.given (λ g. absurd (eqb-false l.number number (not-true (eqb l.number number) b.0) (rw g at e)))
    (λ g. let (a, left) = passed_front number front rest accepted b.1 (rw g at e) in (next g a, left))

-- each line of a table has a number
abbrev pub numbered : List Line → Bool
numbered = without 0

-- so a call that answers the number 0 is accepted
pub zero_accepts : (table : List Line) (accepted : Answer) → numbered table ≡ true → (tried table refused accepted).number ≡ 0 → Accepts table
zero_accepts table accepted some e = (passed_front 0 table [] accepted some (rw (append-nil table) e)).0

-- what a line says of a call that passes it
pub sizes_mean : (C : Code) (n k : ℕ) → (sizes C n k).given ≡ false → (2 ≤ k) × (k ≤ n) × (n ≤ C.positions)
sizes_mean C n k e =
    let low = both (leb 2 k) (leb k n && leb n C.positions) (not-false (sizes_fit C n k) e) in
    let high = both (leb k n) (leb n C.positions) low.1 in
    (leb-true 2 k low.0, leb-true k n high.0, leb-true n C.positions high.1)

pub size_means : (C : Code) (n : ℕ) → (size C n).given ≡ false → (2 ≤ n) × (n ≤ C.positions)
size_means C n e =
    let b = both (leb 2 n) (leb n C.positions) (not-false (size_fits C n) e) in
    (leb-true 2 n b.0, leb-true n C.positions b.1)

-- and sizes like these pass
pub sizes_pass : (C : Code) (n k : ℕ) → 2 ≤ k → k ≤ n → n ≤ C.positions → (sizes C n k).given ≡ false
sizes_pass C n k some fits few = rw (le-leb 2 k some, le-leb k n fits, le-leb n C.positions few) refl

pub size_passes : (C : Code) (n : ℕ) → 2 ≤ n → n ≤ C.positions → (size C n).given ≡ false
size_passes C n some few = rw (le-leb 2 n some, le-leb n C.positions few) refl

pub level_passes : (L : ℕ) → 1 ≤ L → L ≤ greatest_level → (level L).given ≡ false
level_passes L some few = rw (le-leb 1 L some, le-leb L greatest_level few) refl

pub level_means : (L : ℕ) → (level L).given ≡ false → (1 ≤ L) × (L ≤ greatest_level)
level_means L e =
    let b = both (leb 1 L) (leb L greatest_level) (not-false (level_fits L) e) in
    (leb-true 1 L b.0, leb-true L greatest_level b.1)

pub limit_means : (G : ℕ) → (limit G).given ≡ false → G ≤ greatest_limit
limit_means G e = ltb-false greatest_limit G e

pub degree_means : (v D : ℕ) → (degree v D).given ≡ false → count v D ≤ greatest_count
degree_means v D e = ltb-false greatest_count (count v D) e

pub entries_mean : (stated : ℕ) (input : List ℕ) → (entries stated input).given ≡ false → length input ≡ stated
entries_mean stated input e = eqb-true (length input) stated (not-false (eqb (length input) stated) e)

pub room_means : (needed given : ℕ) → (room needed given).given ≡ false → needed ≤ given
room_means needed given e = ltb-false given needed e

pub above_means : (greatest : ℕ) (l : List ℕ) → (none_above greatest l).given ≡ false → (j : ℕ) → get_or l j 0 ≤ greatest
above_means greatest l e = none_above_lem greatest l (ltb-false (first_above greatest l) (length l) e)

pub symbols_mean : (C : Code) → 0 < C.symbols → (l : List ℕ) → (symbols C l).given ≡ false → Symbols C l
symbols_mean C some l e j = let h = above_means (C.symbols - 1) l e j in omega arith

-- and a list that has none above the greatest passes it
pub none_passes : (greatest : ℕ) (l : List ℕ) → ((j : ℕ) → get_or l j 0 ≤ greatest) → (none_above greatest l).given ≡ false
none_passes greatest l low =
    let first = first_above greatest l in
    split (ltb first (length l))
    (λ y.
    let bad = first_above_lem greatest l (ltb-true first (length l) y) in
    let good = low first in
    let z : ⊥ = omega arith in absurd z)
    (λ n. n)

pub symbols_pass : (C : Code) (l : List ℕ) → Symbols C l → (symbols C l).given ≡ false
symbols_pass C l s = none_passes (C.symbols - 1) l (λ j. let h = s j in omega arith)

pub cost_means : (G : ℕ) (m : List ℕ) → (cost_within G m).given ≡ false → cost m ≤ G
cost_means G m e = ltb-false G (cost m) e

-- whatever a table gives: what is shown of a line's refusal where it is given, and of what is accepted where none is
pub data Whatever (Refused : ℕ → ℕ → Type 0) (Accepted : Type 0) : List Line → Type 0 where
  last : Accepted → Whatever Refused Accepted []
  or : {l : Line} {table : List Line} → (l.given ≡ true → Refused l.number l.place)
      → (l.given ≡ false → Whatever Refused Accepted table) → Whatever Refused Accepted (l ∷ table)

pub whatever {ℓ} : {A : Type ℓ} (P : A → Type 0) (refused : ℕ → ℕ → A) (accepted : A) (table : List Line)
    → Whatever (λ number place. P (refused number place)) (P accepted) table → P (tried table refused accepted)
whatever P refused accepted [] (last p) = p
whatever P refused accepted (l ∷ table) (or here later) =
    split l.given (λ e. rw e (here e)) (λ e. rw e (whatever P refused accepted table (later e)))
