-- From the elements of a field to the symbols of a code that carries it: columns of symbols, their shifts and M(x, x y + c) are those of the
-- elements that they stand for.
-- Assumes nothing.
use mathlib.Core.Bool.{true}
use mathlib.Core.List.{List, [], ◌∷◌, map}
use mathlib.Core.Path.{◌≡◌, refl, sym, ◌∙◌, ap, ap₂, subst}
use Prim.Native.Nat.{ℕ, zero, suc, ◌+◌, ◌<◌}
use lib.ListN.{get_or}
use Rattle.definitions.proofs.Zeros.{zeros_of_is_zero, is_zero_of_zeros}
use Rattle.definitions.specs.Code.{Symbols}
use Rattle.definitions.specs.Field.{Ops, Code, numbers}
use Rattle.definitions.specs.Polynomial.{is_zero}
use Rattle.algebra.specs.FieldOf.{FieldOf}
use Rattle.algebra.proofs.Elements.{zero_element, zero_symbol, element_zero}
use Rattle.algebra.proofs.Numbers.{elements, numbers_elements, number_at, numbers_symbols}
use Rattle.algebra.proofs.RootCounting.{Zero}
use Rattle.root_tree.specs.Columns.{coefficient, first, shift, substitute}
use Rattle.root_tree.proofs.Columns.{carry_shift, carry_substitute, substitute_at}
use Rattle.root_tree.proofs.Values.{shift_same}

-- every entry of every column is a symbol
abbrev pub SymbolColumns : Code → List (List ℕ) → Type 0
SymbolColumns C M = (a : ℕ) → Symbols C (get_or M a [])

module _ (C : Code) (F : FieldOf C) where
  -- the operations on numbers
  abbrev N : Ops
  N = numbers C

  -- the operations on elements
  abbrev G : Ops
  G = F.ring.ops

  -- the number of an element
  abbrev φ : G.K → ℕ
  φ = F.number.φ

  -- the elements of columns of symbols
  abbrev pub column_elements : List (List ℕ) → List (List F.ring.ops.K)
  column_elements M = map (elements C F) M

  -- an entry of a list of elements
  pub element_at : (p : List ℕ) (n : ℕ) → get_or (elements C F p) n F.ring.ops.o ≡ F.element (get_or p n 0)
  element_at [] n = sym (element_zero C F)
  element_at (x ∷ p) zero = refl
  element_at (x ∷ p) (suc n) = element_at p n

  -- a list of zeros is one of zero elements
  pub elements_zero : (p : List ℕ) → is_zero p ≡ true → Zero F.ring.ops (elements C F p)
  elements_zero p z t = element_at p t ∙ ap F.element (zeros_of_is_zero p z t) ∙ element_zero C F

  -- and the other way round
  pub zero_elements : (p : List ℕ) → Symbols C p → Zero F.ring.ops (elements C F p) → is_zero p ≡ true
  zero_elements p s z = is_zero_of_zeros p (λ t. zero_element C F (get_or p t 0) (s t) (sym (element_at p t) ∙ z t))

  -- from elements to numbers and back
  elements_numbers : (l : List G.K) → elements C F (map φ l) ≡ l
  elements_numbers [] = refl
  elements_numbers (x ∷ l) = ap₂ (λ (y : G.K) (k : List G.K). y ∷ k) (F.element_number x) (elements_numbers l)

  -- of columns
  column_elements_numbers : (M : List (List G.K)) → column_elements (map (map φ) M) ≡ M
  column_elements_numbers [] = refl
  column_elements_numbers (p ∷ M) = ap₂ (λ (q : List G.K) (L : List (List G.K)). q ∷ L) (elements_numbers p) (column_elements_numbers M)

  -- from symbols to elements and back
  numbers_column_elements : (M : List (List ℕ)) → SymbolColumns C M → map (map φ) (column_elements M) ≡ M
  numbers_column_elements [] s = refl
  numbers_column_elements (p ∷ M) s =
      ap₂ (λ (q : List ℕ) (L : List (List ℕ)). q ∷ L) (numbers_elements C F p (s zero)) (numbers_column_elements M (λ a. s (suc a)))

  -- the numbers of columns of elements are symbols
  number_columns : (M : List (List G.K)) → SymbolColumns C (map (map φ) M)
  number_columns [] a = λ j. zero_symbol C F
  number_columns (p ∷ M) zero = numbers_symbols C F p
  number_columns (p ∷ M) (suc a) = number_columns M a

  -- a column's elements
  column_elements_lem : (M : List (List ℕ)) (u : ℕ) → get_or (column_elements M) u [] ≡ elements C F (get_or M u [])
  column_elements_lem [] u = refl
  column_elements_lem (p ∷ M) zero = refl
  column_elements_lem (p ∷ M) (suc u) = column_elements_lem M u

  -- M(0, y) of the elements
  pub first_elements : (M : List (List ℕ)) → first F.ring.ops (column_elements M) ≡ elements C F (first (numbers C) M)
  unfolding first
  first_elements [] = refl
  first_elements (p ∷ M) = refl

  -- the numbers of a shift
  pub number_shift : (c : ℕ) → c < C.symbols → (p : List ℕ) → Symbols C p
      → map F.number.φ (shift F.ring.ops (F.element c) (elements C F p)) ≡ shift (numbers C) c p
  number_shift c hc p s =
      carry_shift G N F.number (F.element c) (elements C F p) ∙ ap₂ (shift N) (F.number_element c hc) (numbers_elements C F p s)

  -- the coefficients of a shift
  pub shift_element : (c : ℕ) → c < C.symbols → (p : List ℕ) → Symbols C p → (n : ℕ)
      → get_or (shift F.ring.ops (F.element c) (elements C F p)) n F.ring.ops.o ≡ F.element (get_or (shift (numbers C) c p) n 0)
  shift_element c hc p s n =
      sym (ap F.element (ap (λ (l : List ℕ). get_or l n 0) (sym (number_shift c hc p s)) ∙ number_at C F (shift G (F.element c) (elements C F p)) n)
      ∙ F.element_number (get_or (shift G (F.element c) (elements C F p)) n G.o))

  module _ (c : ℕ) (hc : c < C.symbols) (M : List (List ℕ)) (s : SymbolColumns C M) where
    -- M(x, x y + c) of the numbers
    number_substitute : substitute N c M ≡ map (map φ) (substitute G (F.element c) (column_elements M))
    number_substitute =
        sym (carry_substitute G N F.number (F.element c) (column_elements M) ∙ ap₂ (substitute N) (F.number_element c hc) (numbers_column_elements M s))

    -- M(x, x y + c) of the elements
    pub substitute_elements : column_elements (substitute (numbers C) c M) ≡ substitute F.ring.ops (F.element c) (column_elements M)
    substitute_elements = ap column_elements number_substitute ∙ column_elements_numbers (substitute G (F.element c) (column_elements M))

    -- its entries are symbols
    pub substitute_symbols : SymbolColumns C (substitute (numbers C) c M)
    substitute_symbols = subst (SymbolColumns C) (sym number_substitute) (number_columns (substitute G (F.element c) (column_elements M)))

    -- the coefficient of x^(u + t) y^t is the t-th of column u, shifted
    pub substitute_coefficient : (u t : ℕ) → coefficient (numbers C) (substitute (numbers C) c M) (u + t) t ≡ get_or (shift (numbers C) c (get_or M u [])) t 0
    substitute_coefficient u t =
        ap (λ (L : List (List ℕ)). coefficient N L (u + t) t) number_substitute
        ∙ coefficient_number (substitute G (F.element c) (column_elements M)) (u + t) t
        ∙ ap φ (substitute_at F.ring (F.element c) (column_elements M) u t
        ∙ ap (λ (p : List G.K). get_or (shift G (F.element c) p) t G.o) (column_elements_lem M u))
        ∙ sym (number_at C F (shift G (F.element c) (elements C F (get_or M u []))) t)
        ∙ ap (λ (l : List ℕ). get_or l t 0) (number_shift c hc (get_or M u []) (s u))
      where
        -- the number of a coefficient
        coefficient_number : (L : List (List G.K)) (a b : ℕ) → coefficient N (map (map φ) L) a b ≡ φ (coefficient G L a b)
        coefficient_number [] a b = sym F.number.φ_zero
        coefficient_number (p ∷ L) zero b = number_at C F p b
        coefficient_number (p ∷ L) (suc a) b = coefficient_number L a b

  -- a shift of symbols sees only coefficients
  pub shift_sees : (c : ℕ) → c < C.symbols → (p q : List ℕ) → Symbols C p → Symbols C q → ((n : ℕ) → get_or p n 0 ≡ get_or q n 0)
      → (n : ℕ) → get_or (shift (numbers C) c p) n 0 ≡ get_or (shift (numbers C) c q) n 0
  shift_sees c hc p q sp sq e n =
      ap (λ (l : List ℕ). get_or l n 0) (sym (number_shift c hc p sp)) ∙ number_at C F (shift G (F.element c) (elements C F p)) n
      ∙ ap φ (shift_same F.ring (F.element c) (elements C F p) (elements C F q) (λ m. element_at p m ∙ ap F.element (e m) ∙ sym (element_at q m)) n)
      ∙ sym (number_at C F (shift G (F.element c) (elements C F q)) n) ∙ ap (λ (l : List ℕ). get_or l n 0) (number_shift c hc q sq)
