-- The theorem of Koetter and Vardy for a list of coefficients.
-- Assumes nothing.
use mathlib.Core.List.{List}
use Prim.Native.Nat.{ℕ, suc, ◌≤◌, ◌<◌}
use lib.ListN.{length}
use Rattle.definitions.specs.Field.{value}
use Rattle.definitions.specs.Polynomial.{terms, monomials}
use Rattle.definitions.specs.Roots.{compose}
use Rattle.definitions.specs.Tools.{sum}
use Rattle.algebra.specs.Ring.{Ring, IsField}
use Rattle.algebra.proofs.Monomials.{list_degree}
use Rattle.algebra.proofs.RootCounting.{Zero, Distinct}
use Rattle.algebra.proofs.Theorem.{PassesThrough, score_above_degree}

module _ (A : Ring) (F : IsField A) where
  open A.ops use {K}

  -- for a list of coefficients in document 01's order
  pub score_above_degree_of_list : (n : ℕ) (x : ℕ → K) (m : ℕ → K → ℕ) (v D : ℕ) (q f : List K)
      → Distinct A.ops n x → PassesThrough A n x m (terms A.ops q (monomials v D))
      → length f ≤ suc v → D < sum n (λ j. m j (value A.ops (x j) f)) → Zero A.ops (compose A.ops f (terms A.ops q (monomials v D)))
  score_above_degree_of_list n x m v D q f distinct passes short above =
      score_above_degree A F n x m v D (terms A.ops q (monomials v D)) f distinct (list_degree A.ops v D q) passes short above
