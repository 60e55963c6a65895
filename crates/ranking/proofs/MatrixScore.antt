-- The score under a matrix held by value is the score under the bytes that it was loaded from.
-- Assumes nothing.
use mathlib.Core.List.{List}
use mathlib.Core.Path.{◌≡◌, sym, ◌∙◌, ap}
use Prim.Native.Nat.{ℕ, ◌*◌, ◌≤◌}
use native.Mathlib.Omega.{arith}
use lib.ListN.{length, get_or}
use Rattle.algebra.proofs.Numbers.{point_symbol, value_symbol}
use Rattle.definitions.proofs.Codeword.{codeword_at}
use Rattle.definitions.proofs.Tools.{sum_ext}
use Rattle.definitions.specs.Code.{Symbols, point, codeword}
use Rattle.definitions.specs.Field.{Code, numbers, value}
use Rattle.definitions.specs.Weights.{entry, score}
use Rattle.algebra.specs.FieldOf.{FieldOf}
use Rattle.algebra.specs.Grid.{entry_of}
use Rattle.ranking.specs.Scores.{matrix_score}
use Rattle.matrix.proofs.Columns.{matrix_entry}
use Rattle.matrix.specs.Columns.{matrix_of}

pub matrix_score_lem : (C : Code) (F : FieldOf C) (m : List ℕ) (n : ℕ) → n ≤ C.positions → length m ≡ C.symbols * n → (f : List ℕ) → Symbols C f → matrix_score C (matrix_of C m n) n f ≡ score C n m f
matrix_score_lem C F m n small size f s =
    sum_ext n (λ (i : ℕ). entry_of (matrix_of C m n) i (value (numbers C) (point C i) f)) (λ (i : ℕ). entry C m i (get_or (codeword C n f) i 0))
    (λ i h.
    matrix_entry C m n small size i (value (numbers C) (point C i) f) (omega arith) (value_symbol C F (point C i) f (point_symbol C F i) s)
    ∙ ap (entry C m i) (sym (codeword_at C f n i h)))
