-- What interpolation answers and leaves: where a check refuses, where the cost does, and where the polynomial is found.
-- Assumes nothing.
use mathlib.Core.List.{List, [], ◌∷◌, ◌++◌}
use mathlib.Core.Path.{◌≡◌, refl, sym, ◌∙◌, ap, ap₂, subst}
use Prim.Native.Nat.{ℕ, ◌*◌, ◌-◌, ◌≤◌, ◌<◌}
use borrow.Author.Tests.{lt-ltb, le-ltb}
use lib.ListN.{length}
use Rattle.std.specs.Prelude.{Result, Ok, Err}
use Rattle.definitions.proofs.Table.{stop, next, end, gives, accepts}
use Rattle.definitions.specs.Answers.{Answer, refused, interpolated, Interpolated}
use Rattle.definitions.specs.Bound.{count, bound}
use Rattle.definitions.specs.Field.{Code}
use Rattle.definitions.specs.Polynomial.{Interpolates}
use Rattle.definitions.specs.Refusals.{Line, cost_within}
use Rattle.definitions.specs.Weights.{cost}
use Rattle.interpolation.specs.Answered.{Answered}
use Rattle.polynomial.specs.Found.{Found}
use Rattle.refusals.proofs.Chained.{Came, told_is, stops, goes_on}
use Rattle.refusals.specs.Checked.{told_checked}
use Rattle.refusals.specs.Refusal.{told_refusal}
use Rattle.refusals.specs.declared.Refusal.{Refusal}
use Rattle.matrix.specs.Columns.{matrix_of}

module _ (C : Code) (n k G : ℕ) (m out : List ℕ) where
  -- what is made of an answer and the memory after it by a refusal
  abbrev refusing : Answer → List ℕ → ℕ → ℕ → Type 0
  refusing answer after number place = (answer ≡ refused number place) × (after ≡ out)

  -- a chain has tried the front of a table; the cost, which every table tries last, is left
  module _ {T : Type 0} {front : List Line} {c : Result T Refusal} (came : Came front [] (told_checked c)) where
    pub refused_by_check : {r : Refusal} → c ≡ Err r → Answered C (front ++ (cost_within G m ∷ [])) n k m out (told_refusal r) out
    refused_by_check {r} e =
        subst (λ (X : Type 0). X) (stops came (cost_within G m ∷ []) (refusing (told_refusal r) out) (Interpolated C n k m out (told_refusal r) out) e) (told_is r, refl)

    -- the rest, of the same bytes
    pub passed_on : {x : T} → c ≡ Ok x → {bytes : List ℕ} → bytes ≡ m → (answer : Answer) (after : List ℕ)
        → Answered C (cost_within G bytes ∷ []) n k bytes out answer after → Answered C (front ++ (cost_within G m ∷ [])) n k m out answer after
    passed_on e same answer after w =
        subst (λ (X : Type 0). X) (goes_on came (cost_within G m ∷ []) (refusing answer after) (Interpolated C n k m out answer after) e)
        (subst (λ (x : List ℕ). Answered C (cost_within G x ∷ []) n k x out answer after) same w)

  -- the cost is above the limit
  pub refused_by_cost : G < cost m → Answered C (cost_within G m ∷ []) n k m out (refused 7 0) out
  refused_by_cost h =
      subst (λ (X : Type 0). X)
      (gives (refusing (refused 7 0) out) (Interpolated C n k m out (refused 7 0) out) {table = cost_within G m ∷ []} (stop (lt-ltb G (cost m) h))) (refl, refl)

  -- the polynomial of the columns is that of the bytes, at the bound of their cost
  pub found_is_answered : n ≤ C.positions → length m ≡ C.symbols * n → (columns : List (List ℕ)) → columns ≡ matrix_of C m n
      → (price D c place : ℕ) (after : List ℕ) → price ≡ cost m → price ≤ G → D ≡ bound (k - 1) price → c ≡ count (k - 1) D
      → Found C columns (k - 1) D out place after → Answered C (cost_within G m ∷ []) n k m out (interpolated D c) after
  found_is_answered small full columns ec price D c place after ep cheap ed en f =
      subst (λ (X : Type 0). X)
      (accepts (refusing (interpolated D c) after) (Interpolated C n k m out (interpolated D c) after) {table = cost_within G m ∷ []}
      (next (le-ltb G (cost m) (subst (λ (x : ℕ). x ≤ G) ep cheap)) end)) (
        f.coefficients,
        subst (λ (d : ℕ). Interpolates C n (k - 1) d m f.coefficients) is_bound (f.interpolates m n small full ec),
        ap₂ interpolated is_bound (en ∙ sym f.size),
        f.written,
      )
    where
      is_bound : D ≡ bound (k - 1) (cost m)
      is_bound = ed ∙ ap (bound (k - 1)) ep
