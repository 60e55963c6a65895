-- What code over an array needs: the search sees only coefficients, so that an array may stand for the columns; and one level down the weight of y
-- falls by one, so that D + 1 columns are enough at every level. At the last level the degree may pass D, and only the constants count.
-- Assumes nothing.
use mathlib.Core.Bool.{Bool, true, false, cond, true≢false}
use mathlib.Core.List.{List, [], ◌∷◌, map}
use mathlib.Core.Logic.{◌⊎◌, inl, inr, ⊎_elim}
use mathlib.Core.Path.{◌≡◌, refl, sym, ◌∙◌, ap, ap₂}
use Prim.Native.Nat.{ℕ, zero, suc, ◌+◌, ◌*◌, ◌-◌, ◌≤◌, ◌<◌, suc-le-suc}
use native.Mathlib.Decide.{dec_lt}
use native.Mathlib.Nat.{le_trans, le_of_suc-le-suc, not-suc-le-zero, zero-lt-suc, zero-add, suc-add, mul-le-mul_left, suc-mul}
use native.Mathlib.Omega.{arith}
use borrow.Author.Tests.{eqb-true, eq-eqb}
use lib.Dec.{eqb}
use lib.ListN.{length, get_or, take, get_or-eq_default}
use lib.Seq.{get_or-take}
use Rattle.definitions.proofs.Symbols.{take_symbols}
use Rattle.definitions.proofs.Tools.{split, both}
use Rattle.definitions.proofs.Zeros.{is_zero_nil, zeros_of_is_zero, is_zero_of_zeros}
use Rattle.definitions.specs.Code.{Symbols}
use Rattle.definitions.specs.Field.{Ops, Code, numbers, value}
use Rattle.definitions.specs.Polynomial.{is_zero}
use Rattle.algebra.specs.FieldOf.{FieldOf}
use Rattle.algebra.proofs.Elements.{zero_symbol}
use Rattle.algebra.proofs.Numbers.{elements, number_value}
use Rattle.root_tree.specs.Columns.{coefficient, first, shift, substitute, columns}
use Rattle.root_tree.specs.Tree.{Same, Under, strip, constants_zero, begins, next, search}
use Rattle.root_tree.proofs.Arrays.{take_short, columns_within, columns_beyond, columns_above}
use Rattle.root_tree.proofs.Columns.{first_column, substitute_above, length_shift}
use Rattle.root_tree.proofs.Elements.{SymbolColumns, element_at, substitute_coefficient, shift_sees}
use Rattle.root_tree.proofs.Roots.{columns_symbols}
use Rattle.root_tree.proofs.Search.{equal_tests, join_equal, strip_nil, strip_yes, strip_no, first_symbols, branch, search_zero, search_suc, next_symbols}
use Rattle.root_tree.proofs.Values.{value_same}

-- ---- the test of the last level

-- what it says of each column
constants_at : (M : List (List ℕ)) → constants_zero M ≡ true → (s : ℕ) → get_or (get_or M s []) 0 0 ≡ 0
unfolding constants_zero
constants_at [] e s = refl
constants_at (p ∷ M) e zero = eqb-true (get_or p 0 0) 0 (both (eqb (get_or p 0 0) 0) (constants_zero M) e).0
constants_at (p ∷ M) e (suc s) = constants_at M (both (eqb (get_or p 0 0) 0) (constants_zero M) e).1 s

-- and the other way round
at_constants : (M : List (List ℕ)) → ((s : ℕ) → get_or (get_or M s []) 0 0 ≡ 0) → constants_zero M ≡ true
unfolding constants_zero
at_constants [] h = refl
at_constants (p ∷ M) h = rw (eq-eqb (get_or p 0 0) 0 (h zero)) (at_constants M (λ s. h (suc s)))

-- it sees only the constants of the columns
constants_same : (M L : List (List ℕ)) → ((s : ℕ) → get_or (get_or M s []) 0 0 ≡ get_or (get_or L s []) 0 0) → constants_zero M ≡ constants_zero L
constants_same M L h =
    equal_tests (constants_zero M) (constants_zero L) (λ e. at_constants L (λ s. sym (h s) ∙ constants_at M e s))
    (λ e. at_constants M (λ s. h s ∙ constants_at L e s))

-- and powers of x do not matter to it
constants_strip : (M : List (List ℕ)) → constants_zero (strip M) ≡ constants_zero M
constants_strip [] = ap constants_zero strip_nil
constants_strip (p ∷ M) =
    split (is_zero p)
    (λ y. ap constants_zero (strip_yes p M y) ∙ constants_strip M
    ∙ equal_tests (constants_zero M) (constants_zero (p ∷ M)) (λ e. at_constants (p ∷ M) (more p M (zeros_of_is_zero p y 0) (constants_at M e)))
    (λ e. at_constants M (λ s. constants_at (p ∷ M) e (suc s))))
    (λ n. ap constants_zero (strip_no p M n))
  where
    -- a column more
    more : (p : List ℕ) (M : List (List ℕ)) → get_or p 0 0 ≡ 0 → ((s : ℕ) → get_or (get_or M s []) 0 0 ≡ 0) → (s : ℕ) → get_or (get_or (p ∷ M) s []) 0 0 ≡ 0
    more p M z f zero = z
    more p M z f (suc s) = f s

-- freed of its powers of x: the columns from the first on that is not zero
pub strip_at : (A : Code) (M : List (List ℕ)) (n : ℕ) → ((a : ℕ) → a < n → is_zero (get_or M a []) ≡ true)
    → (is_zero (get_or M n []) ≡ false) ⊎ (length M ≤ n) → (s t : ℕ) → coefficient (numbers A) (strip M) s t ≡ coefficient (numbers A) M (n + s) t
strip_at A [] n z e s t = rw strip_nil
strip_at A (p ∷ M) zero z e s t =
    ⊎_elim (λ f. rw (strip_no p M f, zero-add s)) (λ l. absurd (not-suc-le-zero l)) e
strip_at A (p ∷ M) (suc n) z e s t =
    rw (strip_yes p M (z zero (zero-lt-suc n)), suc-add n s)
    (strip_at A M n (λ a l. z (suc a) (suc-le-suc l)) (⊎_elim (λ f. inl f) (λ l. inr (le_of_suc-le-suc l)) e) s t)

-- ---- columns with the same coefficients

module _ (C : Code) where
  -- the degree in y is below h
  abbrev Low : ℕ → List (List ℕ) → Type 0
  Low h M = (s t : ℕ) → h ≤ t → coefficient (numbers C) M s t ≡ 0

  -- lists of the same entries are zero together
  zero_same : (p q : List ℕ) → ((n : ℕ) → get_or p n 0 ≡ get_or q n 0) → is_zero p ≡ true → is_zero q ≡ true
  zero_same p q h e = is_zero_of_zeros q (λ n. sym (h n) ∙ zeros_of_is_zero p e n)

  -- columns with the same coefficients are stripped alike
  pub strip_same : (M L : List (List ℕ)) → Same C M L → Same C (strip M) (strip L)
  strip_same [] [] h s t = refl
  strip_same [] (q ∷ L) h s t =
      strip_same [] L (λ u w. h (suc u) w) s t
      ∙ ap (λ (X : List (List ℕ)). coefficient (numbers C) X s t) (sym (strip_yes q L (zero_same [] q (h zero) is_zero_nil)))
  strip_same (p ∷ M) [] h s t =
      ap (λ (X : List (List ℕ)). coefficient (numbers C) X s t) (strip_yes p M (zero_same [] p (λ n. sym (h zero n)) is_zero_nil))
      ∙ strip_same M [] (λ u w. h (suc u) w) s t
  strip_same (p ∷ M) (q ∷ L) h s t =
      split (is_zero p)
      (λ y. ap (λ (X : List (List ℕ)). coefficient (numbers C) X s t) (strip_yes p M y) ∙ strip_same M L (λ u w. h (suc u) w) s t
      ∙ ap (λ (X : List (List ℕ)). coefficient (numbers C) X s t) (sym (strip_yes q L (zero_same p q (h zero) y))))
      (λ n. ap (λ (X : List (List ℕ)). coefficient (numbers C) X s t) (strip_no p M n) ∙ h s t
      ∙ ap (λ (X : List (List ℕ)). coefficient (numbers C) X s t) (sym (strip_no q L
      (split (is_zero q) (λ y. absurd (true≢false (sym (zero_same q p (λ k. sym (h zero k)) y) ∙ n))) (λ m. m)))))

  -- stripping keeps the degree
  pub under_strip : (v D : ℕ) (M : List (List ℕ)) → Under C v D M → Under C v D (strip M)
  under_strip v D [] u = rw strip_nil u
  under_strip v D (p ∷ M) u =
      split (is_zero p) (λ y. rw (strip_yes p M y) (under_strip v D M (λ s t l. u (suc s) t (omega arith)))) (λ n. rw (strip_no p M n) u)

module _ (C : Code) (F : FieldOf C) where
  -- the operations on numbers
  abbrev N : Ops
  N = numbers C

  -- a value sees only coefficients
  value_sees : (c : ℕ) → c < C.symbols → (p q : List ℕ) → Symbols C p → Symbols C q → ((n : ℕ) → get_or p n 0 ≡ get_or q n 0)
      → value N c p ≡ value N c q
  value_sees c hc p q sp sq e =
      ap (λ (x : ℕ). value N x p) (sym (F.number_element c hc)) ∙ sym (number_value C F (F.element c) p sp)
      ∙ ap F.number.φ (value_same F.ring (F.element c) (elements C F p) (elements C F q)
      (λ n. element_at C F p n ∙ ap F.element (e n) ∙ sym (element_at C F q n)))
      ∙ number_value C F (F.element c) q sq ∙ ap (λ (x : ℕ). value N x q) (F.number_element c hc)

  -- the coefficients of M(0, y)
  first_at : (M : List (List ℕ)) (t : ℕ) → get_or (first N M) t 0 ≡ coefficient N M zero t
  first_at M t = ap (λ (p : List ℕ). get_or p t 0) (sym (first_column N M))

  -- so does the test of a symbol
  begins_same : (c : ℕ) → c < C.symbols → (M L : List (List ℕ)) → SymbolColumns C M → SymbolColumns C L → Same C M L → begins C c M ≡ begins C c L
  unfolding begins
  begins_same c hc M L s_m s_l h =
      ap (λ (x : ℕ). eqb x 0) (value_sees c hc (first N M) (first N L) (first_symbols C M s_m) (first_symbols C L s_l)
      (λ n. first_at M n ∙ h zero n ∙ sym (first_at L n)))

  -- a coefficient of M(x, x y + c) on or below the diagonal
  pub substitute_cell : (c : ℕ) → c < C.symbols → (M : List (List ℕ)) → SymbolColumns C M → (s t : ℕ) → t ≤ s
      → coefficient (numbers C) (substitute (numbers C) c M) s t ≡ get_or (shift (numbers C) c (get_or M (s - t) [])) t 0
  substitute_cell c hc M s_m s t l =
      let e : s ≡ s - t + t = omega arith in
      ap (λ (w : ℕ). coefficient N (substitute N c M) w t) e ∙ substitute_coefficient C F c hc M s_m (s - t) t

  -- and substitution
  substitute_same : (c : ℕ) → c < C.symbols → (M L : List (List ℕ)) → SymbolColumns C M → SymbolColumns C L → Same C M L
      → Same C (substitute N c M) (substitute N c L)
  substitute_same c hc M L s_m s_l h s t =
      elim (dec_lt s t) [
        | yes l ↦ substitute_above N c M s t l ∙ sym (substitute_above N c L s t l)
        | no n ↦
            let l : t ≤ s = omega arith in
            substitute_cell c hc M s_m s t l
            ∙ shift_sees C F c hc (get_or M (s - t) []) (get_or L (s - t) []) (s_m (s - t)) (s_l (s - t)) (h (s - t)) t
            ∙ sym (substitute_cell c hc L s_l s t l)
      ]

  -- the search sees only coefficients
  pub search_same : (k : ℕ) (M L : List (List ℕ)) → SymbolColumns C M → SymbolColumns C L → Same C M L → search C k M ≡ search C k L
  search_same zero M L s_m s_l h =
      search_zero C M ∙ ap (λ (b : Bool). cond {A = List (List ℕ)} b ([] ∷ []) []) (constants_same M L (λ s. h s zero)) ∙ sym (search_zero C L)
  search_same (suc k) M L s_m s_l h =
      search_suc C k M
      ∙ join_equal (branch C k M) (branch C k L) C.symbols
      (λ c hc. ap₂ (λ (b : Bool) (X : List (List ℕ)). cond b (map (λ (f : List ℕ). c ∷ f) X) []) (begins_same c hc M L s_m s_l h)
      (search_same k (next C c M) (next C c L) (next_symbols C F c hc M s_m) (next_symbols C F c hc L s_l)
      (strip_same C (substitute N c M) (substitute N c L) (substitute_same c hc M L s_m s_l h))))
      ∙ sym (search_suc C k L)

  -- ---- the degree

  -- a shift keeps the degree
  shift_degree : (c : ℕ) → c < C.symbols → (p : List ℕ) → Symbols C p → (t : ℕ) → ((n : ℕ) → t ≤ n → get_or p n 0 ≡ 0) → get_or (shift N c p) t 0 ≡ 0
  shift_degree c hc p s t h =
      shift_sees C F c hc p (take t p) s (take_symbols C (zero_symbol C F) t p s) cut t
      ∙ get_or-eq_default (shift N c (take t p)) 0 (le_trans (length_shift N c (take t p)) (take_short t p))
    where
      -- what is cut off is zero
      cut : (n : ℕ) → get_or p n 0 ≡ get_or (take t p) n 0
      cut n =
          elim (dec_lt n t) [
            | yes l ↦ sym (get_or-take t p n 0 l)
            | no m ↦ let l : t ≤ n = omega arith in h n l ∙ sym (get_or-eq_default (take t p) 0 (le_trans (take_short t p) l))
          ]

  -- substitution keeps the degree in y
  low_substitute : (c : ℕ) → c < C.symbols → (h : ℕ) (M : List (List ℕ)) → SymbolColumns C M → Low C h M → Low C h (substitute N c M)
  low_substitute c hc h M s_m w s t l =
      elim (dec_lt s t) [
        | yes p ↦ substitute_above N c M s t p
        | no n ↦ substitute_cell c hc M s_m s t (omega arith) ∙ shift_degree c hc (get_or M (s - t) []) (s_m (s - t)) t (λ n m. w (s - t) n (le_trans l m))
      ]

  -- what y weighs less, x y + c weighs more
  weights : (s t n v : ℕ) → t ≤ s → t ≤ n → s + v * t ≤ s - t + suc v * n
  weights s t n v p q = let e = mul-le-mul_left v q in rw (suc-mul v n) (omega arith)

  -- one level down, one weight less
  under_substitute : (c : ℕ) → c < C.symbols → (v D : ℕ) (M : List (List ℕ)) → SymbolColumns C M → Under C (suc v) D M → Under C v D (substitute N c M)
  under_substitute c hc v D M s_m u s t l =
      elim (dec_lt s t) [
        | yes p ↦ substitute_above N c M s t p
        | no n ↦
            let p : t ≤ s = omega arith in
            substitute_cell c hc M s_m s t p
            ∙ shift_degree c hc (get_or M (s - t) []) (s_m (s - t)) t (λ n m. u (s - t) n (let g = weights s t n v p m in omega arith))
      ]

  -- the constants of the columns beyond D are zero
  constants_substitute : (c : ℕ) → c < C.symbols → (D : ℕ) (M : List (List ℕ)) → SymbolColumns C M → Under C 0 D M
      → (s : ℕ) → D < s → coefficient N (substitute N c M) s zero ≡ 0
  constants_substitute c hc D M s_m u s l =
      substitute_cell c hc M s_m s zero (omega arith)
      ∙ shift_degree c hc (get_or M (s - zero) []) (s_m (s - zero)) zero (λ n _. u (s - zero) n (omega arith))

  -- ---- the step of the search over an array of D + 1 columns of height h

  module _ (h D : ℕ) (pos : 1 ≤ h) (c : ℕ) (hc : c < C.symbols) (l x r : List ℕ) (sl : Symbols C l) (sx : Symbols C x) (sr : Symbols C r)
      (holds : (s t : ℕ) → s < D + 1 → t < h → get_or x (s * h + t) 0 ≡ coefficient (numbers C) (substitute (numbers C) c (columns (numbers C) h (D + 1) l)) s t)
      (freed : Same C (columns (numbers C) h (D + 1) r) (strip (columns (numbers C) h (D + 1) x))) where
    -- the polynomial
    abbrev M : List (List ℕ)
    M = columns N h (D + 1) l

    -- what is substituted
    abbrev X : List (List ℕ)
    X = columns N h (D + 1) x

    -- and freed
    abbrev R : List (List ℕ)
    R = columns N h (D + 1) r

    -- its entries are symbols
    s_m : SymbolColumns C M
    s_m = columns_symbols C (zero_symbol C F) h (D + 1) l sl

    -- so are those of what is handed on
    s_r : SymbolColumns C R
    s_r = columns_symbols C (zero_symbol C F) h (D + 1) r sr

    -- x holds M(x, x y + c) where its degree is at most D
    whole : (v : ℕ) → Under C (suc v) D M → Same C X (substitute N c M)
    whole v u s t =
        elim (dec_lt s (D + 1)) [
          | yes p ↦ elim (dec_lt t h) [
            | yes q ↦ columns_within N h (D + 1) x s t p q ∙ holds s t p q
            | no n ↦
                let q : h ≤ t = omega arith in
                columns_above N h (D + 1) x s t q ∙ sym (low_substitute c hc h M s_m (columns_above N h (D + 1) l) s t q)
          ]
          | no n ↦
              let q : D < s + v * t = omega arith in
              columns_beyond N h (D + 1) x s t (omega arith) ∙ sym (under_substitute c hc v D M s_m u s t q)
        ]

    -- its constants in any case
    constants_whole : Under C 0 D M → (s : ℕ) → coefficient N X s zero ≡ coefficient N (substitute N c M) s zero
    constants_whole u s =
        elim (dec_lt s (D + 1)) [
          | yes p ↦ columns_within N h (D + 1) x s zero p pos ∙ holds s zero p pos
          | no n ↦ columns_beyond N h (D + 1) x s zero (omega arith) ∙ sym (constants_substitute c hc D M s_m u s (omega arith))
        ]

    -- what is handed on gives the rows of the next level
    pub search_handed : (k : ℕ) → Under C k D (columns (numbers C) h (D + 1) l)
        → search C k (columns (numbers C) h (D + 1) r) ≡ search C k (next C c (columns (numbers C) h (D + 1) l))
    search_handed zero u =
        search_zero C R
        ∙ ap (λ (b : Bool). cond {A = List (List ℕ)} b ([] ∷ []) [])
        (constants_same R (strip X) (λ s. freed s zero) ∙ constants_strip X ∙ constants_same X (substitute N c M) (constants_whole u)
        ∙ sym (constants_strip (substitute N c M)))
        ∙ sym (search_zero C (next C c M))
    search_handed (suc k) u =
        search_same (suc k) R (next C c M) s_r (next_symbols C F c hc M s_m)
        (λ s t. freed s t ∙ strip_same C X (substitute N c M) (whole k u) s t)

    -- and its degree is within the array again
    pub under_handed : (k : ℕ) → Under C k D (columns (numbers C) h (D + 1) l) → Under C (k - 1) D (columns (numbers C) h (D + 1) r)
    under_handed zero u s t g = columns_beyond N h (D + 1) r s t (omega arith)
    under_handed (suc k) u s t g =
        let e : suc k - 1 ≡ k = omega arith in
        freed s t ∙ strip_same C X (substitute N c M) (whole k u) s t
        ∙ under_strip C k D (substitute N c M) (under_substitute c hc k D M s_m u) s t (rw e at g)
