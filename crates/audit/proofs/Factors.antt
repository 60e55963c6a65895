-- "y-root means factor": a message is a y-root of a polynomial if and only if y - f(x) divides it, over any code that carries a field.
-- Assumes nothing.
use mathlib.Core.Bool.{Bool, true, false, cond, ◌&&◌}
use mathlib.Core.List.Memᴰ
use mathlib.Core.List.{List, [], ◌∷◌, ◌++◌, map, map-append, Memᴰ}
use mathlib.Core.Path.{◌≡◌, refl, sym, ◌∙◌, ap, ap₂, subst}
use Prim.Native.Nat.{ℕ, suc, ◌<◌}
use lib.Dec.{eqb}
use lib.ListN.{get_or}
use Rattle.algebra.proofs.Carry.{carried, carry_terms}
use Rattle.algebra.proofs.Elements.{number_injective}
use Rattle.algebra.proofs.Numbers.{elements, numbers_elements, number_at, number_compose, compose_zero}
use Rattle.algebra.proofs.RootCounting.{Zero}
use Rattle.algebra.specs.FieldOf.{FieldOf}
use Rattle.algebra.specs.Ring.{Hom}
use Rattle.audit.proofs.Coefficients.{root_divides, divides_root}
use Rattle.audit.proofs.Quotient.{quotient_by}
use Rattle.audit.specs.Factors.{coefficient, times_y, times_x, times_constant, times_of, times_factor, Divides}
use Rattle.definitions.proofs.Zeros.{zeros_of_is_zero}
use Rattle.definitions.specs.Code.{Symbols}
use Rattle.definitions.specs.Field.{Ops, Code, numbers}
use Rattle.definitions.specs.Polynomial.{Term, terms, monomials}
use Rattle.definitions.specs.Roots.{compose, is_root}

-- ---- a map that keeps sums and products carries coefficients and factors

module _ (A R : Ops) (h : Hom A R) where
  open h use {φ, φ_zero, φ_add, φ_mul}

  carry_where : (t : Bool) (c : A.K) → φ (cond t c A.o) ≡ cond t (φ c) R.o
  carry_where true c = refl
  carry_where false c = φ_zero

  carry_coefficient : (q : List (Term A)) (a b : ℕ) → φ (coefficient A q a b) ≡ coefficient R (map (carried A R h) q) a b
  unfolding coefficient
  carry_coefficient [] a b = φ_zero
  carry_coefficient (m ∷ q) a b =
      let t = eqb m.1 a && eqb m.2 b in
      φ_add (cond t m.0 A.o) (coefficient A q a b) ∙ ap₂ R.add (carry_where t m.0) (carry_coefficient q a b)

  carry_y : (r : List (Term A)) → map (carried A R h) (times_y A r) ≡ times_y R (map (carried A R h) r)
  carry_y [] = refl
  carry_y (m ∷ r) = ap (λ (l : List (Term R)). carried A R h (m.0, m.1, suc m.2) ∷ l) (carry_y r)

  carry_x : (r : List (Term A)) → map (carried A R h) (times_x A r) ≡ times_x R (map (carried A R h) r)
  carry_x [] = refl
  carry_x (m ∷ r) = ap (λ (l : List (Term R)). carried A R h (m.0, suc m.1, m.2) ∷ l) (carry_x r)

  carry_constant : (c : A.K) (r : List (Term A)) → map (carried A R h) (times_constant A c r) ≡ times_constant R (φ c) (map (carried A R h) r)
  carry_constant c [] = refl
  carry_constant c (m ∷ r) = ap₂ (λ (d : R.K) (l : List (Term R)). (d, m.1, m.2) ∷ l) (φ_mul c m.0) (carry_constant c r)

  carry_of : (f : List A.K) (r : List (Term A)) → map (carried A R h) (times_of A f r) ≡ times_of R (map φ f) (map (carried A R h) r)
  unfolding times_of
  carry_of [] r = refl
  carry_of (c ∷ f) r =
      map-append (carried A R h) (times_constant A c r) (times_of A f (times_x A r))
      ∙ ap₂ ◌++◌ (carry_constant c r) (carry_of f (times_x A r) ∙ ap (times_of R (map φ f)) (carry_x r))

  carry_factor : (f : List A.K) (r : List (Term A)) → map (carried A R h) (times_factor A f r) ≡ times_factor R (map φ f) (map (carried A R h) r)
  carry_factor f r = map-append (carried A R h) (times_y A r) (times_of A f r) ∙ ap₂ ◌++◌ (carry_y r) (carry_of f r)

module _ (C : Code) (F : FieldOf C) where
  abbrev G : Ops
  G = F.ring.ops

  abbrev N : Ops
  N = numbers C

  abbrev φ : G.K → ℕ
  φ = F.number.φ

  -- the elements of a polynomial's terms
  abbrev elements_of : List (Term N) → List (Term G)
  elements_of r = map (λ (m : Term N). (F.element m.0, m.1, m.2)) r

  numbers_of : (r : List (Term N)) → ((m : Term N) → Memᴰ m r → m.0 < C.symbols) → map (carried G N F.number) (elements_of r) ≡ r
  numbers_of [] s = refl
  numbers_of (m ∷ r) s =
      ap₂ (λ (c : ℕ) (l : List (Term N)). (c, m.1, m.2) ∷ l) (F.number_element m.0 (s m (Memᴰ.head refl))) (numbers_of r (λ n h. s n (Memᴰ.tail h)))

  module _ (v D : ℕ) (q f : List ℕ) (sq : Symbols C q) (sf : Symbols C f) where
    abbrev Q : List (Term G)
    Q = terms G (elements C F q) (monomials v D)

    -- coefficients of numbers, for those of elements
    coefficients_of : (a b : ℕ) → φ (coefficient G Q a b) ≡ coefficient N (terms N q (monomials v D)) a b
    coefficients_of a b =
        carry_coefficient G N F.number Q a b
        ∙ ap (λ (p : List (Term N)). coefficient N p a b)
        (carry_terms G N F.number (elements C F q) (monomials v D) ∙ ap (λ (l : List ℕ). terms N l (monomials v D)) (numbers_elements C F q sq))

    factors_of : (r : List (Term G)) (a b : ℕ)
        → φ (coefficient G (times_factor G (elements C F f) r) a b) ≡ coefficient N (times_factor N f (map (carried G N F.number) r)) a b
    factors_of r a b =
        carry_coefficient G N F.number (times_factor G (elements C F f) r) a b
        ∙ ap (λ (p : List (Term N)). coefficient N p a b)
        (carry_factor G N F.number (elements C F f) r ∙ ap (λ (l : List ℕ). times_factor N l (map (carried G N F.number) r)) (numbers_elements C F f sf))

    pub root_is_factor : is_root C v D q f ≡ true → Divides C v D q f
    root_is_factor root =
        let r = quotient_by G (elements C F f) Q in
        let zero : Zero G (compose G (elements C F f) Q) = λ t.
        number_injective C F (get_or (compose G (elements C F f) Q) t G.o) G.o
        (sym (number_at C F (compose G (elements C F f) Q) t) ∙ ap (λ (l : List ℕ). get_or l t 0) (number_compose C F f q (monomials v D) sf sq)
        ∙ zeros_of_is_zero (compose N f (terms N q (monomials v D))) root t ∙ sym F.number.φ_zero) in (
          map (carried G N F.number) r,
          λ m h. (let found = Memᴰ.of_map (carried G N F.number) r h in subst (λ (t : Term N). t.0 < C.symbols) found.2 (F.number_symbol found.0.0)),
          λ a b. sym (coefficients_of a b) ∙ ap φ (root_divides F.ring (elements C F f) Q zero a b) ∙ factors_of r a b,
        )

    pub factor_is_root : Divides C v D q f → is_root C v D q f ≡ true
    factor_is_root (r, symbols, same) =
        compose_zero C F f q (monomials v D) sf sq
        (divides_root F.ring (elements C F f) Q (elements_of r) (λ a b.
        number_injective C F (coefficient G Q a b) (coefficient G (times_factor G (elements C F f) (elements_of r)) a b)
        (coefficients_of a b ∙ same a b ∙ ap (λ (p : List (Term N)). coefficient N (times_factor N f p) a b) (sym (numbers_of r symbols)) ∙ sym (factors_of (elements_of r) a b))))
