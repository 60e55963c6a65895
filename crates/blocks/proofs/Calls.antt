-- A block that a closure makes entry by entry: where each call answers f i and leaves the closure as it was, its entries are those of f.
-- Assumes nothing.
use Rattle.std.proofs.Common.{◌≡◌, ℕ, zero, suc, ◌+◌, ◌≤◌, ◌<◌, List, get_or, arith, sym, ◌∙◌, ap, subst}
use Rattle.std.specs.Fn.{Called}
use Rattle.std.specs.Array.{IsFromFnResult, IsFromFnResultFrom}
use Rattle.blocks.specs.Row.{Front}
use denote.Param.Members.{Mut}
use native.Mathlib.Decide.{ℕ_discrete}

module _ {F : Type 0} (g : Mut F (ℕ × Unit {0}) ℕ) (s : F) (f : ℕ → ℕ) where
  -- of the n entries from i on
  calls_from : (n i : ℕ) (l : List ℕ) → ((k y : ℕ) (t : F) → i ≤ k → k < i + n → Called g s (k, tt) y t → (y ≡ f k) × (t ≡ s)) → IsFromFnResultFrom g s l i n
      → (k : ℕ) → i ≤ k → k < i + n → get_or l k 0 ≡ f k
  calls_from zero i l each r k a b = absurd (omega arith)
  calls_from (suc n) i l each r k a b =
      let one = each i r.1 r.0 (omega arith) (omega arith) r.3 in
      elim (ℕ_discrete k i) [
        | yes e ↦ ap (λ (j : ℕ). get_or l j 0) e ∙ r.2.1 0 ∙ one.0 ∙ ap f (sym e)
        | no e ↦ calls_from n (i + 1) l (λ j y t c d. each j y t (omega arith) (omega arith)) (subst (λ (t : F). IsFromFnResultFrom g t l (i + 1) n) one.1 r.4) k (omega arith) (omega arith)
      ]

  -- of all n entries
  pub front_called : (n : ℕ) (l : List ℕ) → IsFromFnResult g s l n → ((k y : ℕ) (t : F) → k < n → Called g s (k, tt) y t → (y ≡ f k) × (t ≡ s)) → Front n f l
  front_called n l r each k h = calls_from n 0 l (λ j y t a b. each j y t (omega arith)) r.each k (omega arith) (omega arith)
