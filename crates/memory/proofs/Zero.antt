-- A list is zero where each entry is.
-- Assumes nothing.
use mathlib.Core.Bool.{◌&&◌}
use mathlib.Core.List.{List, [], ◌∷◌}
use mathlib.Core.Path.{◌≡◌, sym, ◌∙◌, ap}
use Prim.Native.Nat.{ℕ}
use lib.Dec.{eqb}
use Rattle.std.specs.List.{list_all}
use Rattle.definitions.proofs.Zeros.{is_zero_nil, is_zero_cons}
use Rattle.definitions.specs.Polynomial.{is_zero}

pub is_zero_all : (l : List ℕ) → list_all (λ x. eqb x 0) l ≡ is_zero l
is_zero_all [] = sym is_zero_nil
is_zero_all (x ∷ l) = ap (λ b. eqb x 0 && b) (is_zero_all l) ∙ sym (is_zero_cons x l)
