-- A number is compared with a product by division.
-- Assumes nothing.
use mathlib.Core.Path.{◌≡◌, sym, ◌∙◌, ap}
use Prim.Native.Nat.{ℕ, ◌*◌, ◌/◌, ◌%◌, ◌<◌}
use borrow.Author.Tests.{ltb-true, ltb-false, eqb-true, eqb-false, lt-ltb, le-ltb, eq-eqb, ne_eqb}
use native.Mathlib.Nat.{div-add-mod, mul-div_right, mul-mod_right, div-lt_iff_lt-mul, le-div_iff_mul-le, mul_comm}
use native.Mathlib.Omega.{arith}
use mathlib.Core.Bool.{false}
use lib.Dec.{eqb, ltb}
use Rattle.definitions.proofs.Tools.{split}

module _ (given each many : ℕ) (h : 0 < each) where
  pub other_product : (given % each ≡ 0 → ⊥) → false ≡ eqb given (each * many)
  other_product n = sym (ne_eqb given (each * many) (λ e. n (ap (λ (x : ℕ). x % each) e ∙ mul-mod_right each many)))

  pub same_product : given % each ≡ 0 → eqb (given / each) many ≡ eqb given (each * many)
  same_product e =
      let whole : each * (given / each) ≡ given = (let d = div-add-mod given each in omega arith) in
      split (eqb (given / each) many) (λ t. t ∙ sym (eq-eqb given (each * many) (sym whole ∙ ap (λ (x : ℕ). each * x) (eqb-true (given / each) many t))))
      (λ f. f ∙ sym (ne_eqb given (each * many) (λ p. eqb-false (given / each) many f (ap (λ (x : ℕ). x / each) p ∙ mul-div_right many h))))

  pub short_product : ltb (given / each) many ≡ ltb given (each * many)
  short_product =
      let swapped = mul_comm each many in
      let fewer = div-lt_iff_lt-mul {k = each} {x = given} {y = many} h in
      let more = le-div_iff_mul-le {k = each} {x = many} {y = given} h in
      split (ltb (given / each) many)
      (λ t. let l = fewer.0 (ltb-true (given / each) many t) in t ∙ sym (lt-ltb given (each * many) (omega arith)))
      (λ f. let l = more.0 (ltb-false (given / each) many f) in f ∙ sym (le-ltb given (each * many) (omega arith)))
