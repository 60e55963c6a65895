-- The test of the columns' constants, over plain numbers and lists and any code.
-- Assumes nothing.
use mathlib.Core.Bool.{Bool, true, ◌&&◌}
use mathlib.Core.List.{List}
use mathlib.Core.Path.{◌≡◌, refl, sym, ◌∙◌, ap, ap₂}
use Prim.Native.Nat.{ℕ, zero, suc, ◌+◌, ◌*◌, ◌<◌}
use native.Mathlib.Nat.{suc-mul}
use native.Mathlib.Numerals.{add-one}
use native.Mathlib.Omega.{arith}
use lib.Dec.{eqb}
use lib.ListN.{get_or, drop}
use lib.Seq.{get_or-take, get_or-drop, drop-drop}
use Rattle.definitions.specs.Field.{Code, numbers}
use Rattle.root_tree.specs.Columns.{columns}
use Rattle.root_tree.specs.Tree.{constants_zero}
use Rattle.std.specs.List.{list_all, range_with_len}

module _ (C : Code) where
  -- of no columns
  no_columns : (h : ℕ) (l : List ℕ) → true ≡ constants_zero (columns (numbers C) h 0 l)
  unfolding constants_zero columns
  no_columns h l = refl

  -- of the first column and the others
  constants_step : (h w : ℕ) (l : List ℕ) → 0 < h
      → constants_zero (columns (numbers C) h (suc w) l) ≡ (eqb (get_or l 0 0) 0 && constants_zero (columns (numbers C) h w (drop h l)))
  unfolding constants_zero columns
  constants_step h w l pos = ap (λ (x : ℕ). eqb x 0 && constants_zero (columns (numbers C) h w (drop h l))) (get_or-take h l 0 0 pos)

  -- of the columns from the a-th on
  constants_from : (h w : ℕ) (l : List ℕ) (a : ℕ) → 0 < h
      → list_all (λ (u : ℕ). eqb (get_or l (u * h) 0) 0) (range_with_len a w) ≡ constants_zero (columns (numbers C) h w (drop (a * h) l))
  constants_from h zero l a pos = no_columns h (drop (a * h) l)
  constants_from h (suc w) l a pos =
      let z : a * h ≡ a * h + 0 = omega arith in
      let m : (a + 1) * h ≡ a * h + h = (let k = suc-mul a h in rw (add-one a) (omega arith)) in
      ap₂ (λ (x : ℕ) (b : Bool). eqb x 0 && b)
      (ap (λ (n : ℕ). get_or l n 0) z ∙ sym (get_or-drop (a * h) l 0 0))
      (constants_from h w l (a + 1) pos ∙ ap (λ (q : List ℕ). constants_zero (columns (numbers C) h w q)) (ap (λ (n : ℕ). drop n l) m ∙ sym (drop-drop h (a * h) l)))
      ∙ sym (constants_step h w (drop (a * h) l) pos)

  -- of all columns
  pub constants_tested : (h w : ℕ) (l : List ℕ) → 0 < h
      → list_all (λ (a : ℕ). eqb (get_or l (a * h) 0) 0) (range_with_len 0 w) ≡ constants_zero (columns (numbers C) h w l)
  constants_tested h w l pos =
      let e : 0 * h ≡ 0 = omega arith in
      constants_from h w l 0 pos ∙ ap (λ (n : ℕ). constants_zero (columns (numbers C) h w (drop n l))) e
