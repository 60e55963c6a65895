-- From the elements of a field to the symbols of a code that carries it: values, Hasse derivatives and Q(x, f(x)) of plain numbers are those of
-- the elements that they stand for.
-- Assumes nothing.
use mathlib.Core.Bool.{true}
use mathlib.Core.List.{List, [], ◌∷◌, map}
use mathlib.Core.Path.{◌≡◌, refl, sym, ◌∙◌, ap, ap₂, subst}
use Prim.Native.Nat.{ℕ, zero, suc, ◌<◌}
use lib.ListN.{get_or}
use Rattle.definitions.proofs.Zeros.{is_zero_of_zeros}
use Rattle.definitions.specs.Code.{Symbols, point}
use Rattle.definitions.specs.Field.{Ops, Code, numbers, power, value}
use Rattle.definitions.specs.Polynomial.{Term, terms, hasse, is_zero}
use Rattle.definitions.specs.Roots.{compose}
use Rattle.algebra.specs.FieldOf.{FieldOf}
use Rattle.algebra.proofs.Carry.{carry_power, carry_value, carry_hasse, carry_terms, carry_compose}
use Rattle.algebra.proofs.Elements.{zero_symbol}
use Rattle.algebra.proofs.RootCounting.{Zero}

module _ (C : Code) (F : FieldOf C) where
  -- the operations on elements
  abbrev G : Ops
  G = F.ring.ops

  -- the operations on numbers
  abbrev N : Ops
  N = numbers C

  -- the number of an element
  abbrev φ : G.K → ℕ
  φ = F.number.φ

  -- the elements of a list of symbols
  abbrev pub elements : List ℕ → List F.ring.ops.K
  elements l = map F.element l

  -- symbols are the numbers of their elements
  pub numbers_elements : (l : List ℕ) → Symbols C l → map F.number.φ (elements l) ≡ l
  numbers_elements [] s = refl
  numbers_elements (a ∷ l) s = ap₂ (λ (b : ℕ) (k : List ℕ). b ∷ k) (F.number_element a (s zero)) (numbers_elements l (λ j. s (suc j)))

  -- the number of an entry
  pub number_at : (p : List F.ring.ops.K) (n : ℕ) → get_or (map F.number.φ p) n 0 ≡ F.number.φ (get_or p n F.ring.ops.o)
  number_at [] n = sym F.number.φ_zero
  number_at (x ∷ p) zero = refl
  number_at (x ∷ p) (suc n) = number_at p n

  -- the numbers of elements are symbols
  pub numbers_symbols : (l : List F.ring.ops.K) → Symbols C (map F.number.φ l)
  numbers_symbols [] j = zero_symbol C F
  numbers_symbols (x ∷ l) zero = F.number_symbol x
  numbers_symbols (x ∷ l) (suc j) = numbers_symbols l j

  -- the number of a power
  pub number_power : (a : ℕ) → a < C.symbols → (n : ℕ) → F.number.φ (power F.ring.ops (F.element a) n) ≡ power (numbers C) a n
  number_power a h n = carry_power G N F.number (F.element a) n ∙ ap (λ (b : ℕ). power N b n) (F.number_element a h)

  -- a power of a symbol is a symbol
  pub power_symbol : (a : ℕ) → a < C.symbols → (n : ℕ) → power (numbers C) a n < C.symbols
  power_symbol a h n = subst (λ (b : ℕ). b < C.symbols) (number_power a h n) (F.number_symbol (power G (F.element a) n))

  -- a point is a symbol
  pub point_symbol : (i : ℕ) → point C i < C.symbols
  point_symbol = power_symbol C.α F.α_symbol

  -- the number of a value
  pub number_value : (x : F.ring.ops.K) (f : List ℕ) → Symbols C f → F.number.φ (value F.ring.ops x (elements f)) ≡ value (numbers C) (F.number.φ x) f
  number_value x f s = carry_value G N F.number x (elements f) ∙ ap (value N (φ x)) (numbers_elements f s)

  -- at a symbol
  pub number_value_at : (a : ℕ) (f : List ℕ) → a < C.symbols → Symbols C f
      → F.number.φ (value F.ring.ops (F.element a) (elements f)) ≡ value (numbers C) a f
  number_value_at a f ha s = number_value (F.element a) f s ∙ ap (λ (b : ℕ). value N b f) (F.number_element a ha)

  -- the value of symbols at a symbol is a symbol
  pub value_symbol : (a : ℕ) (f : List ℕ) → a < C.symbols → Symbols C f → value (numbers C) a f < C.symbols
  value_symbol a f ha s =
      subst (λ (b : ℕ). b < C.symbols) (number_value_at a f ha s) (F.number_symbol (value G (F.element a) (elements f)))

  -- the number of a Hasse derivative
  pub number_hasse : (q : List F.ring.ops.K) (l : List (ℕ × ℕ)) (s t : ℕ) (x y : F.ring.ops.K)
      → F.number.φ (hasse F.ring.ops (terms F.ring.ops q l) s t x y)
      ≡ hasse (numbers C) (terms (numbers C) (map F.number.φ q) l) s t (F.number.φ x) (F.number.φ y)
  number_hasse q l s t x y =
      carry_hasse G N F.number (terms G q l) s t x y ∙ ap (λ (p : List (Term N)). hasse N p s t (φ x) (φ y)) (carry_terms G N F.number q l)

  -- the numbers of Q(x, f(x))
  pub number_compose : (f q : List ℕ) (l : List (ℕ × ℕ)) → Symbols C f → Symbols C q
      → map F.number.φ (compose F.ring.ops (elements f) (terms F.ring.ops (elements q) l)) ≡ compose (numbers C) f (terms (numbers C) q l)
  number_compose f q l sf sq =
      carry_compose G N F.number (elements f) (terms G (elements q) l)
      ∙ ap₂ (compose N) (numbers_elements f sf) (carry_terms G N F.number (elements q) l ∙ ap (λ (p : List ℕ). terms N p l) (numbers_elements q sq))

  -- Q(x, f(x)) of numbers is zero where that of the elements is
  pub compose_zero : (f q : List ℕ) (l : List (ℕ × ℕ)) → Symbols C f → Symbols C q
      → Zero F.ring.ops (compose F.ring.ops (elements f) (terms F.ring.ops (elements q) l))
      → is_zero (compose (numbers C) f (terms (numbers C) q l)) ≡ true
  compose_zero f q l sf sq z = is_zero_of_zeros (compose N f (terms N q l)) each
    where
      -- each coefficient is zero
      each : (t : ℕ) → get_or (compose N f (terms N q l)) t 0 ≡ 0
      each t =
          ap (λ (k : List ℕ). get_or k t 0) (sym (number_compose f q l sf sq))
          ∙ number_at (compose G (elements f) (terms G (elements q) l)) t ∙ ap φ (z t) ∙ F.number.φ_zero
