-- Symbols and the elements that they stand for: zero, one, sums and products, and the inverse that the page of definitions searches.
-- Assumes nothing.
use mathlib.Core.Bool.{true}
use mathlib.Core.Logic.{◌≢◌}
use mathlib.Core.Path.{◌≡◌, sym, ◌∙◌, ap, ap₂, subst}
use Prim.Native.Nat.{ℕ, ◌<◌}
use native.Mathlib.Omega.{arith}
use lib.Dec.{T, eqb, eqb→eq}
use Rattle.definitions.proofs.Tools.{smallest_found}
use Rattle.definitions.specs.Field.{Ops, Code, inverse_of}
use Rattle.algebra.specs.FieldOf.{FieldOf}
use Rattle.algebra.proofs.SymbolNumbers.{number_plus, number_times}
use Rattle.algebra.proofs.RingLaws.{plus_zero, plus_self, equal_of_sum, times_assoc, times_comm, one_times, plus_times, times_zero}

module _ (C : Code) (F : FieldOf C) where
  -- the operations on elements
  abbrev G : Ops
  G = F.ring.ops

  -- the number of an element
  abbrev φ : G.K → ℕ
  φ = F.number.φ

  -- an element is told by its number
  pub number_injective : (x y : F.ring.ops.K) → F.number.φ x ≡ F.number.φ y → x ≡ y
  number_injective x y e = sym (F.element_number x) ∙ ap F.element e ∙ F.element_number y

  -- 0 is a symbol
  pub zero_symbol : 0 < C.symbols
  zero_symbol = subst (λ (a : ℕ). a < C.symbols) F.number.φ_zero (F.number_symbol G.o)

  -- 1 is a symbol
  pub one_symbol : 1 < C.symbols
  one_symbol = subst (λ (a : ℕ). a < C.symbols) F.number.φ_one (F.number_symbol G.i)

  -- the element of 0
  pub element_zero : F.element 0 ≡ F.ring.ops.o
  element_zero = ap F.element (sym F.number.φ_zero) ∙ F.element_number G.o

  -- the element of 1
  pub element_one : F.element 1 ≡ F.ring.ops.i
  element_one = ap F.element (sym F.number.φ_one) ∙ F.element_number G.i

  pub one_not_zero : F.ring.ops.i ≢ F.ring.ops.o
  one_not_zero e = let n : ◌≡◌ {A = ℕ} 1 0 = sym F.number.φ_one ∙ ap φ e ∙ F.number.φ_zero in let z : ⊥ = omega arith in z

  -- symbols with the same element are equal
  pub symbol_injective : (a b : ℕ) → a < C.symbols → b < C.symbols → F.element a ≡ F.element b → a ≡ b
  symbol_injective a b ha hb e = sym (F.number_element a ha) ∙ ap φ e ∙ F.number_element b hb

  -- a symbol whose element is zero is 0
  pub zero_element : (a : ℕ) → a < C.symbols → F.element a ≡ F.ring.ops.o → a ≡ 0
  zero_element a h e = symbol_injective a 0 h zero_symbol (e ∙ sym element_zero)

  module _ (a b : ℕ) (ha : a < C.symbols) (hb : b < C.symbols) where
    -- a sum of symbols is a symbol
    pub plus_symbol : C.plus a b < C.symbols
    plus_symbol = subst (λ (c : ℕ). c < C.symbols) (number_plus C F a b ha hb) (F.number_symbol (G.add (F.element a) (F.element b)))

    -- a product of symbols is a symbol
    pub times_symbol : C.times a b < C.symbols
    times_symbol = subst (λ (c : ℕ). c < C.symbols) (number_times C F a b ha hb) (F.number_symbol (G.mul (F.element a) (F.element b)))

    -- the element of a sum
    pub element_plus : F.element (C.plus a b) ≡ F.ring.ops.add (F.element a) (F.element b)
    element_plus = ap F.element (sym (number_plus C F a b ha hb)) ∙ F.element_number (G.add (F.element a) (F.element b))

    -- the element of a product
    pub element_times : F.element (C.times a b) ≡ F.ring.ops.mul (F.element a) (F.element b)
    element_times = ap F.element (sym (number_times C F a b ha hb)) ∙ F.element_number (G.mul (F.element a) (F.element b))

  -- the product of symbols is commutative
  pub times_turned : (a b : ℕ) → a < C.symbols → b < C.symbols → C.times a b ≡ C.times b a
  times_turned a b ha hb = sym (number_times C F a b ha hb) ∙ ap φ (times_comm F.ring (F.element a) (F.element b)) ∙ number_times C F b a hb ha

  module _ (a b c : ℕ) (ha : a < C.symbols) (hb : b < C.symbols) (hc : c < C.symbols) where
    -- and associative
    pub times_grouped : C.times a (C.times b c) ≡ C.times (C.times a b) c
    times_grouped =
        sym (F.number.φ_mul (F.element a) (G.mul (F.element b) (F.element c)) ∙ ap₂ C.times (F.number_element a ha) (number_times C F b c hb hc))
        ∙ ap φ (sym (times_assoc F.ring (F.element a) (F.element b) (F.element c)))
        ∙ F.number.φ_mul (G.mul (F.element a) (F.element b)) (F.element c) ∙ ap₂ C.times (number_times C F a b ha hb) (F.number_element c hc)

    -- a sum of multiples of a symbol is the multiple by the sum
    pub times_joined : C.plus (C.times a c) (C.times b c) ≡ C.times (C.plus a b) c
    times_joined =
        sym (F.number.φ_add (G.mul (F.element a) (F.element c)) (G.mul (F.element b) (F.element c))
        ∙ ap₂ C.plus (number_times C F a c ha hc) (number_times C F b c hb hc))
        ∙ ap φ (sym (plus_times F.ring (F.element a) (F.element b) (F.element c)))
        ∙ F.number.φ_mul (G.add (F.element a) (F.element b)) (F.element c) ∙ ap₂ C.times (number_plus C F a b ha hb) (F.number_element c hc)

  -- once a symbol is the symbol
  pub once_times : (a : ℕ) → a < C.symbols → C.times 1 a ≡ a
  once_times a h =
      sym (number_times C F 1 a one_symbol h) ∙ ap (λ (x : G.K). φ (G.mul x (F.element a))) element_one ∙ ap φ (one_times F.ring (F.element a))
      ∙ F.number_element a h

  -- a sum with 0 is the other summand
  pub plus_none : (a : ℕ) → a < C.symbols → C.plus a 0 ≡ a
  plus_none a h =
      sym (number_plus C F a 0 h zero_symbol) ∙ ap (λ (x : G.K). φ (G.add (F.element a) x)) element_zero ∙ ap φ (plus_zero F.ring (F.element a))
      ∙ F.number_element a h

  -- equal symbols sum to zero
  pub plus_same : (a : ℕ) → a < C.symbols → C.plus a a ≡ 0
  plus_same a h =
      zero_element (C.plus a a) (plus_symbol a a h h) (element_plus a a h h ∙ plus_self F.ring (F.element a))

  -- and only they
  pub same_of_plus : (a b : ℕ) → a < C.symbols → b < C.symbols → C.plus a b ≡ 0 → a ≡ b
  same_of_plus a b ha hb e =
      symbol_injective a b ha hb
      (equal_of_sum F.ring (F.element a) (F.element b) (sym (element_plus a b ha hb) ∙ ap F.element e ∙ element_zero))

  -- a product with 0 is 0
  pub times_none : (a : ℕ) → a < C.symbols → C.times a 0 ≡ 0
  times_none a h =
      sym (number_times C F a 0 h zero_symbol) ∙ ap (λ (x : G.K). φ (G.mul (F.element a) x)) element_zero ∙ ap φ (times_zero F.ring (F.element a))
      ∙ F.number.φ_zero

  -- on both sides
  pub none_times : (a : ℕ) → a < C.symbols → C.times 0 a ≡ 0
  none_times a h = times_turned 0 a zero_symbol h ∙ times_none a h

  module _ (a : ℕ) (ha : a < C.symbols) (n : a ≢ 0) where
    -- the inverse in the field, as a number
    inverse : ℕ
    inverse = φ (F.field.inverse (F.element a))

    -- it passes the test of the search
    inverse_passes : eqb (C.times a inverse) 1 ≡ true
    unfolding inverse
    inverse_passes = ap (λ (c : ℕ). eqb c 1)
        (ap (λ (b : ℕ). C.times b inverse) (sym (F.number_element a ha)) ∙ sym (F.number.φ_mul (F.element a) (F.field.inverse (F.element a)))
        ∙ ap φ (F.field.mul_inverse (F.element a) (λ e. n (zero_element a ha e))) ∙ F.number.φ_one)

    -- so a symbol is found
    pub inverse_symbol : inverse_of C a < C.symbols
    unfolding inverse
    inverse_symbol =
        let r = smallest_found (λ (b : ℕ). eqb (C.times a b) 1) C.symbols inverse (F.number_symbol (F.field.inverse (F.element a))) inverse_passes in
        let k = r.0 in let l = F.number_symbol (F.field.inverse (F.element a)) in omega arith

    -- and its product with a is 1
    pub times_inverse : C.times a (inverse_of C a) ≡ 1
    unfolding inverse
    times_inverse =
        let r = smallest_found (λ (b : ℕ). eqb (C.times a b) 1) C.symbols inverse (F.number_symbol (F.field.inverse (F.element a))) inverse_passes in
        eqb→eq (C.times a (inverse_of C a)) 1 (subst T (sym r.1) tt)
