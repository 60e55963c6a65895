-- The coefficients of M(x, x y + c): column a has degree at most a in y, and that of x^(u + t) y^t is the t-th of column u of M(x, y + c).
-- Assumes nothing.
use mathlib.Core.List.{List, [], ◌∷◌, map}
use mathlib.Core.Path.{◌≡◌, refl, sym, ◌∙◌, ap, ap₂}
use Prim.Native.Nat.{ℕ, zero, suc, ◌+◌, ◌≤◌, ◌<◌}
use native.Mathlib.Nat.{zero-add, suc-add, add-zero}
use native.Mathlib.Omega.{arith}
use lib.ListN.{length, get_or, get_or-eq_default}
use Rattle.definitions.specs.Field.{Ops}
use Rattle.definitions.specs.Roots.{plus, scaled}
use Rattle.algebra.specs.Ring.{Ring, Hom}
use Rattle.algebra.proofs.Carry.{carry_plus, carry_scaled}
use Rattle.algebra.proofs.Polynomials.{length_plus, length_scaled, coefficient_plus}
use Rattle.algebra.proofs.RingLaws.{plus_zero, zero_plus}
use Rattle.root_tree.specs.Columns.{coefficient, first, shift, shift_columns, plus_columns, times_y, diagonal, spread, substitute}

module _ (A : Ops) where
  open A use {K, o, add as ◌⊕◌, mul as ◌⊗◌}

  infixl 60 ◌⊕◌
  infixl 70 ◌⊗◌
  -- column a, counted from n, has degree at most a
  abbrev pub Triangular : ℕ → List (List K) → Type 0
  Triangular n [] = Unit
  Triangular n (p ∷ M) = (length p ≤ suc n) × Triangular (suc n) M

  -- so counted from one more
  triangular_later : (n : ℕ) (M : List (List K)) → Triangular n M → Triangular (suc n) M
  triangular_later n [] t = tt
  triangular_later n (p ∷ M) t = let h = t.0 in (omega arith, triangular_later (suc n) M t.1)

  -- sums keep it
  triangular_plus : (n : ℕ) (M N : List (List K)) → Triangular n M → Triangular n N → Triangular n (plus_columns A M N)
  unfolding plus_columns
  triangular_plus n [] N t u = u
  triangular_plus n (p ∷ M) [] t u = t
  triangular_plus n (p ∷ M) (q ∷ N) t u = (length_plus A p q (suc n) t.0 u.0, triangular_plus (suc n) M N t.1 u.1)

  -- a factor y counts one more
  triangular_y : (n : ℕ) (M : List (List K)) → Triangular n M → Triangular (suc n) (times_y A M)
  unfolding times_y
  triangular_y n [] t = tt
  triangular_y n (p ∷ M) t = let h = t.0 in (omega arith, triangular_y (suc n) M t.1)

  -- p(x y) has it
  triangular_diagonal : (p : List K) → Triangular zero (diagonal A p)
  unfolding diagonal
  triangular_diagonal [] = tt
  triangular_diagonal (c ∷ p) = (omega arith, triangular_y zero (diagonal A p) (triangular_diagonal p))

  -- so has M(x, x y)
  triangular_spread : (M : List (List K)) → Triangular zero (spread A M)
  unfolding spread
  triangular_spread [] = tt
  triangular_spread (p ∷ M) =
      triangular_plus zero (diagonal A p) ([] ∷ spread A M) (triangular_diagonal p)
      (omega arith, triangular_later zero (spread A M) (triangular_spread M))

  -- column a of M(x, x y + c) has degree at most a
  pub triangular_substitute : (c : K) (M : List (List K)) → Triangular zero (substitute A c M)
  unfolding substitute
  triangular_substitute c M = triangular_spread (shift_columns A c M)

  -- what lies above is zero
  triangular_zero : (n : ℕ) (M : List (List K)) → Triangular n M → (a b : ℕ) → n + a < b → coefficient A M a b ≡ o
  triangular_zero n [] t a b h = refl
  triangular_zero n (p ∷ M) t zero b h = let l = t.0 in get_or-eq_default p o (omega arith)
  triangular_zero n (p ∷ M) t (suc a) b h = triangular_zero (suc n) M t.1 a b (omega arith)

  -- M(x, x y + c) has no x^s y^t with s < t
  pub substitute_above : (c : K) (M : List (List K)) (s t : ℕ) → s < t → coefficient A (substitute A c M) s t ≡ o
  substitute_above c M s t h = triangular_zero zero (substitute A c M) (triangular_substitute c M) s t (omega arith)

  -- y M has the coefficients of M, one up
  y_coefficient : (M : List (List K)) (a b : ℕ) → coefficient A (times_y A M) a (suc b) ≡ coefficient A M a b
  unfolding times_y
  y_coefficient [] a b = refl
  y_coefficient (p ∷ M) zero b = refl
  y_coefficient (p ∷ M) (suc a) b = y_coefficient M a b

  -- and no constants
  y_constant : (M : List (List K)) (a : ℕ) → coefficient A (times_y A M) a zero ≡ o
  unfolding times_y
  y_constant [] a = refl
  y_constant (p ∷ M) zero = refl
  y_constant (p ∷ M) (suc a) = y_constant M a

  -- p(x y) has the coefficients of p on the diagonal
  on_diagonal : (p : List K) (m : ℕ) → coefficient A (diagonal A p) m m ≡ get_or p m o
  unfolding diagonal
  on_diagonal [] m = refl
  on_diagonal (c ∷ p) zero = refl
  on_diagonal (c ∷ p) (suc m) = y_coefficient (diagonal A p) m m ∙ on_diagonal p m

  -- and none below it
  off_diagonal : (p : List K) (u t : ℕ) → coefficient A (diagonal A p) (suc u + t) t ≡ o
  unfolding diagonal
  off_diagonal [] u t = refl
  off_diagonal (c ∷ p) u zero = rw (add-zero (suc u)) (y_constant (diagonal A p) u)
  off_diagonal (c ∷ p) u (suc t) =
      let e : suc u + suc t ≡ suc (suc u + t) = omega arith in
      rw e (y_coefficient (diagonal A p) (suc u + t) t ∙ off_diagonal p u t)

  -- x M(x, x y) has none on the diagonal
  under_diagonal : (M : List (List K)) (m : ℕ) → coefficient A ([] ∷ spread A M) m m ≡ o
  under_diagonal M zero = refl
  under_diagonal M (suc m) = triangular_zero zero (spread A M) (triangular_spread M) m (suc m) (omega arith)

  -- columns are shifted one by one
  shift_columns_at : (c : K) (M : List (List K)) (u : ℕ) → get_or (shift_columns A c M) u [] ≡ shift A c (get_or M u [])
  unfolding shift_columns shift
  shift_columns_at c [] u = refl
  shift_columns_at c (p ∷ M) zero = refl
  shift_columns_at c (p ∷ M) (suc u) = shift_columns_at c M u

  -- M(0, y) is the first column
  pub first_column : (M : List (List K)) → get_or M zero [] ≡ first A M
  unfolding first
  first_column [] = refl
  first_column (p ∷ M) = refl

  -- a shift is no longer
  pub length_shift : (c : K) (p : List K) → length (shift A c p) ≤ length p
  unfolding shift
  length_shift c [] = omega arith
  length_shift c (d ∷ p) =
      let h = length_shift c p in
      length_plus A (scaled A c (shift A c p)) (d ∷ shift A c p) (suc (length p)) (omega (arith, length_scaled A c (shift A c p))) (omega arith)

module _ (A : Ring) where
  open A.ops use {K, o, add as ◌⊕◌}

  infixl 60 ◌⊕◌
  -- the coefficients of a sum
  plus_coefficient : (M N : List (List K)) (a b : ℕ)
      → coefficient A.ops (plus_columns A.ops M N) a b ≡ coefficient A.ops M a b ⊕ coefficient A.ops N a b
  unfolding plus_columns
  plus_coefficient [] N a b = sym (zero_plus A (coefficient A.ops N a b))
  plus_coefficient (p ∷ M) [] a b = sym (plus_zero A (coefficient A.ops (p ∷ M) a b))
  plus_coefficient (p ∷ M) (q ∷ N) zero b = coefficient_plus A p q b
  plus_coefficient (p ∷ M) (q ∷ N) (suc a) b = plus_coefficient M N a b

  -- M(x, x y) moves that of x^u y^t to x^(u + t)
  spread_at : (M : List (List K)) (u t : ℕ) → coefficient A.ops (spread A.ops M) (u + t) t ≡ coefficient A.ops M u t
  unfolding spread
  spread_at [] u t = refl
  spread_at (p ∷ M) zero t =
      plus_coefficient (diagonal A.ops p) ([] ∷ spread A.ops M) (zero + t) t
      ∙ ap (λ (w : ℕ). coefficient A.ops (diagonal A.ops p) w t ⊕ coefficient A.ops ([] ∷ spread A.ops M) w t) (zero-add t)
      ∙ ap₂ ◌⊕◌ (on_diagonal A.ops p t) (under_diagonal A.ops M t) ∙ plus_zero A (get_or p t o)
  spread_at (p ∷ M) (suc u) t =
      plus_coefficient (diagonal A.ops p) ([] ∷ spread A.ops M) (suc u + t) t
      ∙ ap₂ ◌⊕◌ (off_diagonal A.ops p u t)
      (ap (λ (w : ℕ). coefficient A.ops ([] ∷ spread A.ops M) w t) (suc-add u t) ∙ spread_at M u t)
      ∙ zero_plus A (coefficient A.ops M u t)

  -- the coefficient of x^(u + t) y^t of M(x, x y + c) is the t-th of column u, shifted
  pub substitute_at : (c : K) (M : List (List K)) (u t : ℕ)
      → coefficient A.ops (substitute A.ops c M) (u + t) t ≡ get_or (shift A.ops c (get_or M u [])) t o
  unfolding substitute
  substitute_at c M u t =
      spread_at (shift_columns A.ops c M) u t ∙ ap (λ (p : List K). get_or p t o) (shift_columns_at A.ops c M u)

module _ (A R : Ops) (h : Hom A R) where
  open R use {K}
  open h use {φ, φ_zero}

  -- a map that keeps sums and products carries shifts
  pub carry_shift : (c : A.K) (p : List A.K) → map φ (shift A c p) ≡ shift R (φ c) (map φ p)
  unfolding shift
  carry_shift c [] = refl
  carry_shift c (d ∷ p) =
      carry_plus A R h (scaled A c (shift A c p)) (d ∷ shift A c p)
      ∙ ap₂ (plus R) (carry_scaled A R h c (shift A c p) ∙ ap (scaled R (φ c)) (carry_shift c p)) (ap (λ (l : List K). φ d ∷ l) (carry_shift c p))

  -- of all columns
  carry_shift_columns : (c : A.K) (M : List (List A.K)) → map (map φ) (shift_columns A c M) ≡ shift_columns R (φ c) (map (map φ) M)
  unfolding shift_columns
  carry_shift_columns c [] = refl
  carry_shift_columns c (p ∷ M) = ap₂ (λ (r : List K) (L : List (List K)). r ∷ L) (carry_shift c p) (carry_shift_columns c M)

  -- sums
  carry_plus_columns : (M N : List (List A.K)) → map (map φ) (plus_columns A M N) ≡ plus_columns R (map (map φ) M) (map (map φ) N)
  unfolding plus_columns
  carry_plus_columns [] N = refl
  carry_plus_columns (p ∷ M) [] = refl
  carry_plus_columns (p ∷ M) (q ∷ N) = ap₂ (λ (r : List K) (L : List (List K)). r ∷ L) (carry_plus A R h p q) (carry_plus_columns M N)

  -- y M
  carry_times_y : (M : List (List A.K)) → map (map φ) (times_y A M) ≡ times_y R (map (map φ) M)
  unfolding times_y
  carry_times_y [] = refl
  carry_times_y (p ∷ M) = ap₂ (λ (x : K) (L : List (List K)). (x ∷ map φ p) ∷ L) φ_zero (carry_times_y M)

  -- p(x y)
  carry_diagonal : (p : List A.K) → map (map φ) (diagonal A p) ≡ diagonal R (map φ p)
  unfolding diagonal
  carry_diagonal [] = refl
  carry_diagonal (c ∷ p) = ap (λ (L : List (List K)). (φ c ∷ []) ∷ L) (carry_times_y (diagonal A p) ∙ ap (times_y R) (carry_diagonal p))

  -- M(x, x y)
  carry_spread : (M : List (List A.K)) → map (map φ) (spread A M) ≡ spread R (map (map φ) M)
  unfolding spread
  carry_spread [] = refl
  carry_spread (p ∷ M) =
      carry_plus_columns (diagonal A p) ([] ∷ spread A M)
      ∙ ap₂ (plus_columns R) (carry_diagonal p) (ap (λ (L : List (List K)). [] ∷ L) (carry_spread M))

  -- and substitution
  pub carry_substitute : (c : A.K) (M : List (List A.K)) → map (map φ) (substitute A c M) ≡ substitute R (φ c) (map (map φ) M)
  unfolding substitute
  carry_substitute c M = carry_spread (shift_columns A c M) ∙ ap (spread R) (carry_shift_columns c M)
