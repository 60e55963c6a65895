-- M(x, y) in any commutative algebra, and M(x, f(x)) as a power series: f, a symbol c followed by g, is a root of M(x, y) exactly when g is one of
-- M(x, x y + c); a factor x changes no root; and a symbol c with M(0, c) other than zero begins none.
-- Assumes nothing.
use mathlib.Core.List.{List, [], ◌∷◌, map}
use mathlib.Core.Path.{◌≡◌, refl, sym, ◌∙◌, ap, ap₂}
use Prim.Native.Nat.{ℕ, zero, suc}
use lib.ListN.{get_or}
use Rattle.definitions.proofs.Codeword.{value_nil, value_cons}
use Rattle.definitions.specs.Field.{value}
use Rattle.definitions.specs.Roots.{plus, scaled}
use Rattle.algebra.specs.Ring.{Ring, Hom}
use Rattle.algebra.proofs.Evaluation.{evaluate, evaluate_sum, evaluate_multiple}
use Rattle.algebra.proofs.Polynomials.{coefficient_plus}
use Rattle.algebra.proofs.RingLaws.{ring, zero_plus, plus_self, equal_of_sum}
use Rattle.algebra.proofs.RootCounting.{Zero}
use Rattle.algebra.proofs.Series.{Series, series, add_s, mul_s, constant, constants, zero_s, linear}
use Rattle.algebra.proofs.Series.{add_s_at, add_s_comm, zero_s_at, mul_s_zero, constant_zero, constant_suc, linear_add, linear_mul_zero, linear_mul_suc}
use Rattle.algebra.proofs.Taylor.{taylor, taylor_zero}
use Rattle.root_tree.specs.Columns.{first, shift, shift_columns, plus_columns, times_y, diagonal, spread, substitute}

module _ (A R : Ring) (h : Hom A.ops R.ops) where
  open R.ops use {K, o, add as ◌⊕◌, mul as ◌⊗◌}
  open h use {φ, φ_zero}

  infixl 60 ◌⊕◌
  infixl 70 ◌⊗◌
  -- M(x, y)
  unfoldable pub value_of : K → K → List (List A.ops.K) → K
  value_of x y [] = o
  value_of x y (p ∷ M) = evaluate A R h y p ⊕ x ⊗ value_of x y M

  -- of no columns
  pub value_of_nil : (x y : K) → value_of x y [] ≡ o
  unfolding value_of
  value_of_nil x y = refl

  -- of one column more
  pub value_of_cons : (x y : K) (p : List A.ops.K) (M : List (List A.ops.K)) → value_of x y (p ∷ M) ≡ evaluate A R h y p ⊕ x ⊗ value_of x y M
  unfolding value_of
  value_of_cons x y p M = refl

  -- one step of Horner's rule
  shift_step : (r : K) (c d : A.ops.K) (q : List A.ops.K) (s : K) → evaluate A R h r q ≡ s
      → evaluate A R h r (plus A.ops (scaled A.ops c q) (d ∷ q)) ≡ φ d ⊕ (φ c ⊕ r) ⊗ s
  shift_step r c d q s e = simp (evaluate_sum, evaluate_multiple, value_cons, e, ring)

  -- p(y + c)
  value_shift : (r : K) (c : A.ops.K) (p : List A.ops.K) → evaluate A R h r (shift A.ops c p) ≡ evaluate A R h (φ c ⊕ r) p
  unfolding shift
  value_shift r c [] = value_nil R.ops r ∙ sym (value_nil R.ops (φ c ⊕ r))
  value_shift r c (d ∷ p) =
      shift_step r c d (shift A.ops c p) (evaluate A R h (φ c ⊕ r) p) (value_shift r c p)
      ∙ sym (value_cons R.ops (φ c ⊕ r) (φ d) (map φ p))

  -- one column of a sum
  plus_step : (x y : K) (p q : List A.ops.K) (M N T : List (List A.ops.K)) → value_of x y T ≡ value_of x y M ⊕ value_of x y N
      → value_of x y (plus A.ops p q ∷ T) ≡ value_of x y (p ∷ M) ⊕ value_of x y (q ∷ N)
  plus_step x y p q M N T e = simp (value_of_cons, evaluate_sum, e, ring)

  -- the value of a sum
  value_plus_columns : (x y : K) (M N : List (List A.ops.K)) → value_of x y (plus_columns A.ops M N) ≡ value_of x y M ⊕ value_of x y N
  unfolding plus_columns
  value_plus_columns x y [] N = simp (value_of_nil, ring)
  value_plus_columns x y (p ∷ M) [] = simp (value_of_nil, ring)
  value_plus_columns x y (p ∷ M) (q ∷ N) = plus_step x y p q M N (plus_columns A.ops M N) (value_plus_columns x y M N)

  -- one column of y M
  y_step : (x y a s t : K) → t ≡ y ⊗ s → φ A.ops.o ⊕ y ⊗ a ⊕ x ⊗ t ≡ y ⊗ (a ⊕ x ⊗ s)
  y_step x y a s t e = rw (e, φ_zero) (simp ring)

  -- the value of y M
  value_times_y : (x y : K) (M : List (List A.ops.K)) → value_of x y (times_y A.ops M) ≡ y ⊗ value_of x y M
  unfolding times_y
  value_times_y x y [] = simp (value_of_nil, ring)
  value_times_y x y (p ∷ M) =
      value_of_cons x y (A.ops.o ∷ p) (times_y A.ops M)
      ∙ ap (λ (a : K). a ⊕ x ⊗ value_of x y (times_y A.ops M)) (value_cons R.ops y (φ A.ops.o) (map φ p))
      ∙ y_step x y (evaluate A R h y p) (value_of x y M) (value_of x y (times_y A.ops M)) (value_times_y x y M)
      ∙ ap (λ (a : K). y ⊗ a) (sym (value_of_cons x y p M))

  -- one coefficient of p(x y)
  diagonal_step : (x y : K) (c : A.ops.K) (p : List A.ops.K) (T : List (List A.ops.K)) → value_of x y T ≡ y ⊗ evaluate A R h (x ⊗ y) p
      → value_of x y ((c ∷ []) ∷ T) ≡ evaluate A R h (x ⊗ y) (c ∷ p)
  diagonal_step x y c p T e = simp (value_of_cons, value_cons, value_nil, e, ring)

  -- the value of p(x y)
  value_diagonal : (x y : K) (p : List A.ops.K) → value_of x y (diagonal A.ops p) ≡ evaluate A R h (x ⊗ y) p
  unfolding diagonal
  value_diagonal x y [] = value_of_nil x y ∙ sym (value_nil R.ops (x ⊗ y))
  value_diagonal x y (c ∷ p) =
      diagonal_step x y c p (times_y A.ops (diagonal A.ops p))
      (value_times_y x y (diagonal A.ops p) ∙ ap (λ (s : K). y ⊗ s) (value_diagonal x y p))

  -- one column of M(x, x y)
  spread_step : (x y : K) (p : List A.ops.K) (M T : List (List A.ops.K)) → value_of x y T ≡ value_of x (x ⊗ y) M
      → value_of x y (plus_columns A.ops (diagonal A.ops p) ([] ∷ T)) ≡ value_of x (x ⊗ y) (p ∷ M)
  spread_step x y p M T e = simp (value_plus_columns, value_diagonal, value_of_cons, value_nil, e, zero_plus)

  -- the value of M(x, x y)
  value_spread : (x y : K) (M : List (List A.ops.K)) → value_of x y (spread A.ops M) ≡ value_of x (x ⊗ y) M
  unfolding spread
  value_spread x y [] = value_of_nil x y ∙ sym (value_of_nil x (x ⊗ y))
  value_spread x y (p ∷ M) = spread_step x y p M (spread A.ops M) (value_spread x y M)

  -- the value of M(x, y + c)
  value_shift_columns : (x y : K) (c : A.ops.K) (M : List (List A.ops.K)) → value_of x y (shift_columns A.ops c M) ≡ value_of x (φ c ⊕ y) M
  unfolding shift_columns
  value_shift_columns x y c [] = value_of_nil x y ∙ sym (value_of_nil x (φ c ⊕ y))
  value_shift_columns x y c (p ∷ M) =
      value_of_cons x y (shift A.ops c p) (shift_columns A.ops c M)
      ∙ ap₂ (λ (s t : K). s ⊕ x ⊗ t) (value_shift y c p) (value_shift_columns x y c M) ∙ sym (value_of_cons x (φ c ⊕ y) p M)

  -- M(x, x y + c)
  pub value_substitute : (x y : K) (c : A.ops.K) (M : List (List A.ops.K)) → value_of x y (substitute A.ops c M) ≡ value_of x (φ c ⊕ x ⊗ y) M
  unfolding substitute
  value_substitute x y c M = value_spread x y (shift_columns A.ops c M) ∙ value_shift_columns x (x ⊗ y) c M

  -- the value of a list of zeros is zero
  zeros_step : (r s : K) (c : A.ops.K) → c ≡ A.ops.o → s ≡ o → φ c ⊕ r ⊗ s ≡ o
  zeros_step r s c e f = rw (e, f, φ_zero) (simp ring)

  -- of any length
  pub value_zeros : (r : K) (p : List A.ops.K) → Zero A.ops p → evaluate A R h r p ≡ o
  value_zeros r [] z = value_nil R.ops r
  value_zeros r (c ∷ p) z =
      value_cons R.ops r (φ c) (map φ p) ∙ zeros_step r (evaluate A R h r p) c (z zero) (value_zeros r p (λ t. z (suc t)))

  -- at zero it is the constant
  value_at_zero : (p : List A.ops.K) → evaluate A R h o p ≡ φ (get_or p zero A.ops.o)
  value_at_zero [] = value_nil R.ops o ∙ sym φ_zero
  value_at_zero (c ∷ p) = value_cons R.ops o (φ c) (map φ p) ∙ simp ring

module _ (A : Ring) where
  open A.ops use {K, o, add as ◌⊕◌, mul as ◌⊗◌}

  infixl 60 ◌⊕◌
  infixl 70 ◌⊗◌
  -- zero and zero times x
  tidy : (x y : K) → o ⊕ (o ⊗ x ⊕ y) ≡ y
  tidy x y = simp ring

  -- and zero times x
  tidy_first : (w x : K) → w ⊕ o ⊗ x ≡ w
  tidy_first w x = simp ring

  -- f as a series, from its first coefficient on
  taylor_cons : (c : K) (p : List K) → taylor A o (c ∷ p) ≡ add_s A (constant A c) (mul_s A (linear A o) (taylor A o p))
  unfolding taylor
  taylor_cons c p = value_cons (Series A).ops (linear A o) (constant A c) (map (constant A) p)

  -- that of no coefficients
  taylor_nil : taylor A o [] ≡ zero_s A
  unfolding taylor
  taylor_nil = value_nil (Series A).ops (linear A o)

  -- a polynomial as a series: its coefficients
  pub series_coefficient : (p : List K) (n : ℕ) → taylor A o p n ≡ get_or p n o
  series_coefficient [] n = ap (λ (s : ℕ → K). s n) taylor_nil ∙ zero_s_at A n
  series_coefficient (c ∷ p) zero = ap (λ (s : ℕ → K). s zero) (taylor_cons c p) ∙ simp (series, ring)
  series_coefficient (c ∷ p) (suc n) =
      ap (λ (s : ℕ → K). s (suc n)) (taylor_cons c p)
      ∙ add_s_at A (constant A c) (mul_s A (linear A o) (taylor A o p)) (suc n)
      ∙ ap₂ ◌⊕◌ (constant_suc A c n) (linear_mul_suc A o (taylor A o p) n) ∙ tidy (taylor A o p (suc n)) (taylor A o p n) ∙ series_coefficient p n

  -- the Taylor series at c has the coefficients of p(y + c)
  pub shift_coefficient : (c : K) (p : List K) (n : ℕ) → taylor A c p n ≡ get_or (shift A.ops c p) n o
  unfolding taylor
  shift_coefficient c p n =
      ap (λ (x : ℕ → K). evaluate A (Series A) (constants A) x p n)
      (sym (add_s_comm A (constant A c) (linear A o) ∙ linear_add A o c ∙ ap (linear A) (zero_plus A c)))
      ∙ ap (λ (s : ℕ → K). s n) (sym (value_shift A (Series A) (constants A) (linear A o) c p)) ∙ series_coefficient (shift A.ops c p) n

  -- equal coefficients, equal series
  taylor_same : (c : K) (p q : List K) → ((n : ℕ) → get_or p n o ≡ get_or q n o) → taylor A c p ≡ taylor A c q
  unfolding taylor
  taylor_same c p q h =
      equal_of_sum (Series A) (taylor A c p) (taylor A c q)
      (sym (evaluate_sum A (Series A) (constants A) (linear A c) p q)
      ∙ value_zeros A (Series A) (constants A) (linear A c) (plus A.ops p q)
      (λ n. coefficient_plus A p q n ∙ ap (λ (x : K). x ⊕ get_or q n o) (h n) ∙ plus_self A (get_or q n o)))

  -- so shifts and values see only coefficients
  pub shift_same : (c : K) (p q : List K) → ((n : ℕ) → get_or p n o ≡ get_or q n o) → (n : ℕ) → get_or (shift A.ops c p) n o ≡ get_or (shift A.ops c q) n o
  shift_same c p q h n = sym (shift_coefficient c p n) ∙ ap (λ (s : ℕ → K). s n) (taylor_same c p q h) ∙ shift_coefficient c q n

  -- values too
  pub value_same : (c : K) (p q : List K) → ((n : ℕ) → get_or p n o ≡ get_or q n o) → value A.ops c p ≡ value A.ops c q
  value_same c p q h = sym (taylor_zero A c p) ∙ ap (λ (s : ℕ → K). s zero) (taylor_same c p q h) ∙ taylor_zero A c q

  -- ---- M(x, f(x))

  -- as a power series
  unfoldable pub along : List K → List (List K) → ℕ → K
  along f M = value_of A (Series A) (constants A) (linear A o) (taylor A o f) M

  -- f is a root of M
  abbrev pub Root : List (List K) → List K → Type 0
  Root M f = (n : ℕ) → along f M n ≡ o

  -- of no columns
  along_nil : (f : List K) (n : ℕ) → along f [] n ≡ o
  unfolding along
  along_nil f n = ap (λ (s : ℕ → K). s n) (value_of_nil A (Series A) (constants A) (linear A o) (taylor A o f)) ∙ zero_s_at A n

  -- of one column more
  along_cons : (f p : List K) (M : List (List K)) (n : ℕ)
      → along f (p ∷ M) n ≡ evaluate A (Series A) (constants A) (taylor A o f) p n ⊕ mul_s A (linear A o) (along f M) n
  unfolding along
  along_cons f p M n =
      ap (λ (s : ℕ → K). s n) (value_of_cons A (Series A) (constants A) (linear A o) (taylor A o f) p M)
      ∙ add_s_at A (evaluate A (Series A) (constants A) (taylor A o f) p)
      (mul_s A (linear A o) (value_of A (Series A) (constants A) (linear A o) (taylor A o f) M)) n

  -- its constant is that of the first column
  along_first : (f p : List K) (M : List (List K)) → along f (p ∷ M) zero ≡ evaluate A (Series A) (constants A) (taylor A o f) p zero
  along_first f p M =
      along_cons f p M zero
      ∙ ap (λ (t : K). evaluate A (Series A) (constants A) (taylor A o f) p zero ⊕ t) (linear_mul_zero A o (along f M)) ∙ tidy_first _ (along f M zero)

  -- where the first column gives nothing more, the other columns give the rest
  along_next : (f p : List K) (M : List (List K)) (n : ℕ) → evaluate A (Series A) (constants A) (taylor A o f) p (suc n) ≡ o
      → along f (p ∷ M) (suc n) ≡ along f M n
  along_next f p M n e = along_cons f p M (suc n) ∙ ap₂ ◌⊕◌ e (linear_mul_suc A o (along f M) n) ∙ tidy (along f M (suc n)) (along f M n)

  -- a symbol followed by g is a root of M(x, y) exactly when g is one of M(x, x y + c)
  along_substitute : (c : K) (g : List K) (M : List (List K)) → along g (substitute A.ops c M) ≡ along (c ∷ g) M
  unfolding along
  along_substitute c g M =
      value_substitute A (Series A) (constants A) (linear A o) (taylor A o g) c M
      ∙ ap (λ (y : ℕ → K). value_of A (Series A) (constants A) (linear A o) y M) (sym (taylor_cons c g))

  -- so of roots
  pub root_rest : (c : K) (g : List K) (M : List (List K)) → Root M (c ∷ g) → Root (substitute A.ops c M) g
  root_rest c g M r n = ap (λ (s : ℕ → K). s n) (along_substitute c g M) ∙ r n

  -- and the other way round
  pub rest_root : (c : K) (g : List K) (M : List (List K)) → Root (substitute A.ops c M) g → Root M (c ∷ g)
  rest_root c g M r n = ap (λ (s : ℕ → K). s n) (sym (along_substitute c g M)) ∙ r n

  -- a column of zeros gives nothing
  zeros_at : (f p : List K) → Zero A.ops p → (n : ℕ) → evaluate A (Series A) (constants A) (taylor A o f) p n ≡ o
  zeros_at f p z n = ap (λ (s : ℕ → K). s n) (value_zeros A (Series A) (constants A) (taylor A o f) p z) ∙ zero_s_at A n

  -- a factor x, a first column of zeros, changes no root
  pub root_freed : (f p : List K) (M : List (List K)) → Zero A.ops p → Root (p ∷ M) f → Root M f
  root_freed f p M z r n = sym (along_next f p M n (zeros_at f p z (suc n))) ∙ r (suc n)

  -- and the other way round
  pub freed_root : (f p : List K) (M : List (List K)) → Zero A.ops p → Root M f → Root (p ∷ M) f
  freed_root f p M z r zero = along_first f p M ∙ zeros_at f p z zero
  freed_root f p M z r (suc n) = along_next f p M n (zeros_at f p z (suc n)) ∙ r n

  -- the constant of a value
  value_first : (y : ℕ → K) (p : List K) → evaluate A (Series A) (constants A) y p zero ≡ value A.ops (y zero) p
  value_first y [] = ap (λ (s : ℕ → K). s zero) (value_nil (Series A).ops y) ∙ zero_s_at A zero ∙ sym (value_nil A.ops (y zero))
  value_first y (d ∷ p) =
      ap (λ (s : ℕ → K). s zero) (value_cons (Series A).ops y (constant A d) (map (constant A) p))
      ∙ add_s_at A (constant A d) (mul_s A y (evaluate A (Series A) (constants A) y p)) zero
      ∙ ap₂ ◌⊕◌ (constant_zero A d) (mul_s_zero A y (evaluate A (Series A) (constants A) y p) ∙ ap (λ (t : K). y zero ⊗ t) (value_first y p))
      ∙ sym (value_cons A.ops (y zero) d p)

  -- the first symbol of a root is a root of M(0, y)
  pub root_first : (c : K) (g : List K) (M : List (List K)) → Root M (c ∷ g) → value A.ops c (first A.ops M) ≡ o
  unfolding first
  root_first c g [] r = value_nil A.ops c
  root_first c g (p ∷ M) r =
      ap (λ (x : K). value A.ops x p) (sym (series_coefficient (c ∷ g) zero)) ∙ sym (value_first (taylor A o (c ∷ g)) p)
      ∙ sym (along_first (c ∷ g) p M) ∙ r zero

  -- with no symbol left: f = 0 is a root exactly when the constants of all columns are zero
  nil_value : (p : List K) → evaluate A (Series A) (constants A) (taylor A o []) p ≡ constant A (get_or p zero o)
  nil_value p = ap (λ (y : ℕ → K). evaluate A (Series A) (constants A) y p) taylor_nil ∙ value_at_zero A (Series A) (constants A) p

  -- the constant is that of the first column
  pub empty_first : (p : List K) (M : List (List K)) → along [] (p ∷ M) zero ≡ get_or p zero o
  empty_first p M = along_first [] p M ∙ ap (λ (s : ℕ → K). s zero) (nil_value p) ∙ constant_zero A (get_or p zero o)

  -- the rest is that of the other columns
  pub empty_next : (p : List K) (M : List (List K)) (n : ℕ) → along [] (p ∷ M) (suc n) ≡ along [] M n
  empty_next p M n = along_next [] p M n (ap (λ (s : ℕ → K). s (suc n)) (nil_value p) ∙ constant_suc A (get_or p zero o) n)

  -- no columns have the root
  pub empty_root : Root [] []
  empty_root = along_nil []
