-- The step of the loop that sums products of two rows' entries.
-- Assumes nothing.
use mathlib.Core.List.{List, []}
use mathlib.Core.Path.{◌≡◌, sym, ◌∙◌, ap, ap₂}
use Prim.Native.Nat.{ℕ, ◌+◌}
use native.Mathlib.Numerals.{add-one}
use lib.ListN.{get_or}
use Rattle.algebra.proofs.Linear.{dot_suc}
use Rattle.algebra.specs.Grid.{entry_of}
use Rattle.definitions.specs.Field.{Code, numbers}
use Rattle.passing.specs.Derivatives.{derivative_sum}

-- the product of the rows of number n, added to those before
pub product_more : (C : Code) (rows py : List (List ℕ)) (s t n m sum p : ℕ) (row power : List ℕ) → row ≡ get_or rows n [] → power ≡ get_or py n [] → m ≡ n + 1
    → sum ≡ derivative_sum C rows py n s t → p ≡ C.times (get_or row s 0) (get_or power t 0) → C.plus sum p ≡ derivative_sum C rows py m s t
product_more C rows py s t n m sum p row power er ep em es eq =
    ap₂ C.plus es (eq ∙ ap₂ (λ (x y : List ℕ). C.times (get_or x s 0) (get_or y t 0)) er ep)
    ∙ sym (dot_suc (numbers C) n (λ b. entry_of rows b s) (λ b. entry_of py b t))
    ∙ ap (λ (b : ℕ). derivative_sum C rows py b s t) (sym (add-one n) ∙ sym em)
