-- In a list whose rows each come before the next, each comes before every later one.
-- Assumes nothing.
use mathlib.Core.Bool.{true, cond}
use mathlib.Core.List.{List}
use mathlib.Core.Logic.{◌⊎◌}
use mathlib.Core.Path.{◌≡◌, sym, ◌∙◌, ap}
use Prim.Native.Nat.{ℕ, zero, suc, ◌+◌, ◌-◌, ◌<◌}
use native.Mathlib.Decide.{dec_lt}
use native.Mathlib.Nat.{not-suc-le-zero}
use native.Mathlib.Numerals.{add-one}
use native.Mathlib.Omega.{arith}
use borrow.Author.Tests.{ltb-true, lt-ltb}
use lib.Dec.{eqb, ltb}
use lib.ListN.{length, get_or}
use Rattle.definitions.proofs.Messages.{Before}
use Rattle.definitions.specs.Listing.{row_at}
use Rattle.definitions.proofs.Every.{every_at}
use Rattle.rows.proofs.Messages.{decided_tested, decided_means, decided_through, before_tested, before_means, before_through}
use Rattle.rows.specs.Rows.{comes_before, row_before, in_order}

-- "by falling score, equal scores in root order"
abbrev pub Stands : ℕ → ℕ → List ℕ → List ℕ → Type 0
Stands a b f g = (b < a) ⊎ ((a ≡ b) × Before f g)

pub stands_tested : (a b : ℕ) (f g : List ℕ) → Stands a b f g → cond (eqb a b) (comes_before f g) (ltb b a) ≡ true
stands_tested a b f g = decided_tested a b (ltb b a) (comes_before f g) (λ l e. let z : ⊥ = omega arith in z) (lt-ltb b a) (before_tested f g)

stands_means : (a b : ℕ) (f g : List ℕ) → cond (eqb a b) (comes_before f g) (ltb b a) ≡ true → Stands a b f g
stands_means a b f g = decided_means a b (ltb b a) (comes_before f g) (ltb-true b a) (before_means f g)

stands_through : (a b c : ℕ) (f g h : List ℕ) → Stands a b f g → Stands b c g h → Stands a c f h
stands_through a b c f g h = decided_through (λ x y. y < x) (λ x y z l m. omega arith) (before_through f g h) a b c

module _ (k : ℕ) (rows scores : List ℕ) where
  through : (i j l : ℕ) → row_before k rows scores i j ≡ true → row_before k rows scores j l ≡ true → row_before k rows scores i l ≡ true
  through i j l s t =
      stands_tested (get_or scores i 0) (get_or scores l 0) (row_at k rows i) (row_at k rows l)
      (stands_through (get_or scores i 0) (get_or scores j 0) (get_or scores l 0) (row_at k rows i) (row_at k rows j) (row_at k rows l)
      (stands_means (get_or scores i 0) (get_or scores j 0) (row_at k rows i) (row_at k rows j) s)
      (stands_means (get_or scores j 0) (get_or scores l 0) (row_at k rows j) (row_at k rows l) t))

  pub in_order_at : in_order k rows scores ≡ true → (i j : ℕ) → i < j → j < length scores → row_before k rows scores i j ≡ true
  in_order_at o i zero h l = absurd (not-suc-le-zero h)
  in_order_at o i (suc j) h l =
      let next : row_before k rows scores j (suc j) ≡ true =
      ap (row_before k rows scores j) (sym (add-one j)) ∙ every_at (λ (n : ℕ). row_before k rows scores n (n + 1)) (length scores - 1) j o (omega arith) in
      elim (dec_lt i j) [
        | yes b ↦ through i j (suc j) (in_order_at o i j b (omega arith)) next
        | no n ↦ (let same : j ≡ i = omega arith in ap (λ (x : ℕ). row_before k rows scores x (suc j)) (sym same) ∙ next)
      ]
