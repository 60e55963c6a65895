-- The theorem that one list of coefficients interpolates, in any code that carries a field.
-- Assumes nothing.
use mathlib.Core.Bool.{true}
use mathlib.Core.List.{List}
use mathlib.Core.Path.{◌≡◌, refl, sym, ◌∙◌, ap, ap₂}
use Prim.Native.Nat.{ℕ, ◌≤◌, ◌<◌}
use native.Mathlib.Decide.{dec_lt, ℕ_discrete}
use native.Mathlib.Omega.{arith}
use lib.ListN.{length, get_or, get_or-eq_default}
use lib.Seq.{ext_get_or}
use Rattle.algebra.proofs.Elements.{zero_symbol, plus_same, same_of_plus}
use Rattle.algebra.proofs.Polynomials.{length_sum, plus_at}
use Rattle.algebra.proofs.Solutions.{symbols_plus, through_plus}
use Rattle.algebra.specs.FieldOf.{FieldOf}
use Rattle.definitions.proofs.Tools.{split}
use Rattle.definitions.proofs.Zeros.{zeros_of_is_zero}
use Rattle.definitions.specs.Field.{Code, numbers}
use Rattle.definitions.specs.Polynomial.{Interpolates, is_zero, leading}
use Rattle.definitions.specs.Roots.{plus}
use Rattle.linear.proofs.Leading.{zero_after, leading_nonzero}

module _ (C : Code) (F : FieldOf C) (n v D : ℕ) (m p q : List ℕ) (hp : Interpolates C n v D m p) (hq : Interpolates C n v D m q) where
  -- they have the same length
  sizes : length p ≡ length q
  sizes = hp.size ∙ sym hq.size

  no_longer : length p ≤ length q
  no_longer = let e = sizes in omega arith

  -- and the same leading place
  leads : leading p ≡ leading q
  leads =
      let a = hp.least q hq.size hq.symbols hq.through hq.nonzero in
      let b = hq.least p hp.size hp.symbols hp.through hp.nonzero in
      omega arith

  -- their sum
  both : List ℕ
  both = plus (numbers C) p q

  -- from the leading place on the sum is zero
  both_ends : (k : ℕ) → leading q ≤ k → get_or both k 0 ≡ 0
  unfolding both
  both_ends k h =
      elim (dec_lt k (length q)) [
        | yes l ↦
            plus_at (numbers C) p q k sizes l
            ∙ elim (ℕ_discrete k (leading q)) [
              | yes e ↦
                  ap₂ C.plus (ap (λ (x : ℕ). get_or p x 0) (e ∙ sym leads) ∙ hp.leads ∙ sym hq.leads ∙ ap (λ (x : ℕ). get_or q x 0) (sym e)) refl
                  ∙ plus_same C F (get_or q k 0) (hq.symbols k)
              | no g ↦
                  let later : leading p < k = let e = leads in omega arith in
                  ap₂ C.plus (zero_after p k later) (zero_after q k (omega arith)) ∙ plus_same C F 0 (zero_symbol C F)
            ]
        | no l ↦ get_or-eq_default (plus (numbers C) p q) 0 {n = k} (rw (length_sum (numbers C) p q no_longer) (omega arith))
      ]

  -- so it is zero: it would lead earlier
  both_zero : is_zero both ≡ true
  unfolding both
  both_zero =
      split (is_zero both) (λ e. e)
      (λ e.
      absurd
      (leading_nonzero both e
      (both_ends (leading both)
      (hq.least both (length_sum (numbers C) p q no_longer ∙ hq.size) (symbols_plus C F p q hp.symbols hq.symbols)
      (through_plus C F n v D m p q hp.symbols hq.symbols hp.through hq.through) e))))

  -- two lists of coefficients that interpolate are equal
  pub interpolates_unique : p ≡ q
  unfolding both
  interpolates_unique =
      ext_get_or 0 p q sizes
      (λ k h. same_of_plus C F (get_or p k 0) (get_or q k 0) (hp.symbols k) (hq.symbols k)
      (sym (plus_at (numbers C) p q k sizes (let e = sizes in omega arith)) ∙ zeros_of_is_zero both both_zero k))
