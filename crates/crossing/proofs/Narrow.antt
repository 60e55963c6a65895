-- Every number of an answer fits sixteen bits: of each kind of answer, and of a table whose refusals have small places.
-- Assumes nothing.
use mathlib.Core.Bool.{Bool, true, false, cond}
use mathlib.Core.List.{List}
use mathlib.Core.Path.{◌≡◌}
use Prim.Native.Nat.{ℕ, ◌+◌, ◌*◌, ◌-◌, ◌≤◌, ◌<◌}
use native.Mathlib.Nat.{mul-le-mul_left}
use native.Mathlib.Omega.{arith}
use borrow.Author.Tests.{ltb-true}
use lib.ListN.{length}
use Rattle.crossing.specs.Crossing.{Narrow}
use Rattle.definitions.proofs.Bound.{bound_le}
use Rattle.definitions.proofs.Powers.{coefficients_fit}
use Rattle.definitions.proofs.Table.{Whatever, whatever}
use Rattle.definitions.specs.Answers.{Answer, refused, valued, counted, costed, interpolated, Interpolated}
use Rattle.definitions.specs.Bound.{bound}
use Rattle.definitions.specs.Field.{Code}
use Rattle.definitions.specs.Held.{places}
use Rattle.definitions.specs.Limits.{greatest_limit, greatest_rows}
use Rattle.definitions.specs.Planning.{planned}
use Rattle.definitions.specs.Refusals.{Line, tried, none_above, first_above, bad_column, columns}
use Rattle.definitions.specs.Tools.{smallest}
use Rattle.definitions.specs.Weights.{cost}

pub refused_narrow : (number place : ℕ) → place < 65536 → Narrow (refused number place)
refused_narrow number place h = record { place = h; count = omega arith; value = omega arith; cost = omega arith; bound = omega arith }

pub valued_narrow : (x : ℕ) → x < 65536 → Narrow (valued x)
valued_narrow x h = record { place = omega arith; count = omega arith; value = h; cost = omega arith; bound = omega arith }

pub counted_narrow : (n : ℕ) → n < 65536 → Narrow (counted n)
counted_narrow n h = record { place = omega arith; count = h; value = omega arith; cost = omega arith; bound = omega arith }

pub costed_narrow : (c d : ℕ) → c < 65536 → d < 65536 → Narrow (costed c d)
costed_narrow c d h k = record { place = omega arith; count = omega arith; value = omega arith; cost = h; bound = k }

-- a table whose refusals have small places, and what is accepted
abbrev pub Table : Answer → List Line → Type 0
Table accepted = Whatever (λ number place. Narrow (refused number place)) (Narrow accepted)

pub narrow : (accepted : Answer) (table : List Line) → Table accepted table → Narrow (tried table refused accepted)
narrow accepted = whatever Narrow refused accepted

-- a refusal at place 0
pub at_none : {number : ℕ} → Narrow (refused number 0)
at_none {number} = refused_narrow number 0 (omega arith)

-- a refusal at the first of few numbers above the greatest
pub at_first : (greatest : ℕ) (l : List ℕ) → length l < 65536 → (none_above greatest l).given ≡ true → Narrow (refused 5 (first_above greatest l))
at_first greatest l h e = refused_narrow 5 (first_above greatest l) (let bad = ltb-true (first_above greatest l) (length l) e in omega arith)

-- of numbers whose indexes run on
pub at_later : (earlier greatest : ℕ) (l : List ℕ) → earlier + length l < 65536 → (none_above greatest l).given ≡ true
    → Narrow (refused 5 (earlier + first_above greatest l))
at_later earlier greatest l h e = refused_narrow 5 (earlier + first_above greatest l) (let bad = ltb-true (first_above greatest l) (length l) e in omega arith)

-- a refusal at the first of few positions whose numbers sum to more than 4,096
pub at_bad_column : (C : Code) (n : ℕ) (r : List ℕ) → n < 65536 → (columns C n r).given ≡ true → Narrow (refused 6 (smallest (bad_column C r) n))
at_bad_column C n r h e = refused_narrow 6 (smallest (bad_column C r) n) (let bad = ltb-true (smallest (bad_column C r) n) n e in omega arith)

pub interpolated_narrow : (D n : ℕ) → D < 65536 → n < 65536 → Narrow (interpolated D n)
interpolated_narrow D n h k = record { place = omega arith; count = k; value = omega arith; cost = omega arith; bound = h }

pub so_refused : {answer : Answer} {after out : List ℕ} {number place : ℕ} → Narrow (refused number place) → (answer ≡ refused number place) × (after ≡ out) → Narrow answer
so_refused narrow_refused p = rw p.0 narrow_refused

-- an answer that counts few rows
abbrev pub Few : Answer → Type 0
Few answer = answer.count ≤ greatest_rows → Narrow answer

pub few_narrow : (accepted : ℕ) (table : List Line) → Whatever (λ number place. Few (refused number place)) (Few (counted accepted)) table → Few (tried table refused (counted accepted))
few_narrow accepted = whatever Few refused (counted accepted)

-- the places of so many columns
pub few_places : (C : Code) (n : ℕ) → n ≤ C.positions → C.symbols * n ≤ places C
few_places C n h = mul-le-mul_left C.symbols h

-- a yes and a no
pub told_narrow : (b : Bool) → Narrow (valued (cond b 1 0))
told_narrow true = valued_narrow 1 (omega arith)
told_narrow false = valued_narrow 0 (omega arith)

pub planned_narrow : (n s : ℕ) → n < 65536 → s < 65536 → Narrow (planned n s)
planned_narrow n s h k = record { place = omega arith; count = h; value = k; cost = omega arith; bound = omega arith }

-- a polynomial that is found of a matrix within the limit
pub found_narrow : (C : Code) (n k G : ℕ) (m out : List ℕ) (answer : Answer) (after : List ℕ) → 2 ≤ k → G ≤ greatest_limit → cost m ≤ G → Interpolated C n k m out answer after
    → Narrow answer
found_narrow C n k G m out answer after two limit paid found =
    let size = found.1.size in
    let wide = coefficients_fit (k - 1) (omega arith) (cost m) (omega arith) in
    let degree = bound_le (k - 1) (omega arith) (cost m) in
    rw found.2 (interpolated_narrow (bound (k - 1) (cost m)) (length found.0) (omega arith) (omega arith))
