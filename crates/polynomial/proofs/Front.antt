-- What is known once the polynomial is found at the bound of a cost within the limit: of the numbers, and of where its coefficients lie.
-- Assumes nothing.
use mathlib.Core.List.{List}
use mathlib.Core.Path.{◌≡◌, sym, ◌∙◌, ap, subst}
use Prim.Native.Nat.{ℕ, ◌+◌, ◌*◌, ◌≤◌, ◌<◌}
use native.Mathlib.Omega.{arith}
use lib.ListN.{length, take, drop, length-append, length-drop}
use lib.Seq.{take_at}
use Rattle.definitions.proofs.Powers.{bound_fits}
use Rattle.definitions.specs.Bound.{bound}
use Rattle.definitions.specs.Field.{Code}
use Rattle.definitions.specs.Limits.{greatest_limit, coefficient_room}
use Rattle.definitions.specs.Polynomial.{Interpolates}
use Rattle.definitions.specs.Weights.{cost}
use Rattle.matrix.proofs.Columns.{matrix_cost_lem}
use Rattle.matrix.specs.Columns.{matrix_of, matrix_cost}
use Rattle.polynomial.proofs.Coefficients.{count_small}
use Rattle.polynomial.specs.Found.{FoundAtBound}

module _ (C : Code) (a : List (List ℕ)) (v price : ℕ) (before : List ℕ) (D w place : ℕ) (after : List ℕ) (pos : 0 < v) (cheap : price ≤ greatest_limit)
    (f : FoundAtBound C a v price before D w place after) where
  -- the room holds the coefficients
  pub few : w ≤ coefficient_room
  few = count_small v D w price pos cheap f.bounded f.counted

  -- the bound is within the limit too
  pub small : D ≤ greatest_limit
  small = subst (λ (x : ℕ). x ≤ greatest_limit) (sym f.bounded) (bound_fits v pos price cheap)

  -- the coefficients stand at the front
  at_front : take w after ≡ f.found.coefficients
  at_front =
      let q = f.found.coefficients in
      ap (take w) f.found.written ∙ take_at q (drop (length q) before) w (f.found.size ∙ sym f.counted)

  -- of memory that is as long as before
  pub as_long : coefficient_room ≤ length before → length after ≡ length before
  as_long room =
      let q = f.found.coefficients in
      let full = f.found.size in
      let n = f.counted in
      let fits = few in
      ap length f.found.written ∙ length-append q (drop (length q) before) ∙ ap (λ (x : ℕ). length q + x) (length-drop (length q) before) ∙ omega arith

  -- and they interpolate the bytes that the matrix was loaded from, whose cost it is
  module _ (n : ℕ) (some : n ≤ C.positions) (paid : price ≡ matrix_cost C a) (m : List ℕ) (size : length m ≡ C.symbols * n) (loaded : a ≡ matrix_of C m n) where
    pub is_bound : D ≡ bound v (cost m)
    is_bound = f.bounded ∙ ap (bound v) (paid ∙ ap (matrix_cost C) loaded ∙ matrix_cost_lem C m n some size)

    pub front : Interpolates C n v D m (take w after)
    front = subst (Interpolates C n v D m) (sym at_front) (f.found.interpolates m n some size loaded)
