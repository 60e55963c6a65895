-- How many prefixes the search comes to: at each level at most the degree of the stripped M(0, y). For a symbol c of multiplicity m in M(0, y),
-- what is handed on has M(0, y) of degree at most m, and the multiplicities of all symbols together are at most the degree.
-- Assumes nothing.
use mathlib.Core.Bool.{Bool, true, false, cond, true≢false}
use mathlib.Core.List.{List, [], ◌∷◌, map}
use mathlib.Core.Logic.{◌≢◌}
use mathlib.Core.Path.{◌≡◌, refl, sym, ◌∙◌, ap}
use Prim.Native.Nat.{ℕ, zero, suc, ◌+◌, ◌*◌, ◌≤◌, ◌<◌}
use native.Mathlib.Decide.{dec_lt}
use native.Mathlib.Nat.{le_of_suc-le-suc, not-suc-le-zero, zero-add, mul-le-mul_left, suc-mul, le_trans}
use native.Mathlib.Omega.{arith}
use borrow.Author.Tests.{eqb-true, eqb-false}
use lib.Dec.{eqb}
use lib.ListN.{length, get_or, length-map}
use Rattle.definitions.proofs.Joined.{length_join}
use Rattle.definitions.proofs.Sums.{sum_times}
use Rattle.definitions.proofs.Tools.{split, sum_one, sum_le}
use Rattle.definitions.proofs.Zeros.{zeros_of_is_zero, is_zero_false}
use Rattle.definitions.specs.Code.{Symbols}
use Rattle.definitions.specs.Field.{Code, numbers, value}
use Rattle.definitions.specs.Polynomial.{is_zero}
use Rattle.definitions.specs.Tools.{sum}
use Rattle.algebra.proofs.Elements.{element_zero}
use Rattle.algebra.specs.FieldOf.{FieldOf}
use Rattle.algebra.proofs.Numbers.{elements, number_at, number_value}
use Rattle.algebra.proofs.RootCounting.{root_counting}
use Rattle.algebra.proofs.Taylor.{taylor_zero}
use Rattle.root_tree.specs.Columns.{coefficient, first, shift, substitute}
use Rattle.root_tree.specs.Tree.{strip, constants_zero, begins, next, search, prefixes, all_prefixes}
use Rattle.root_tree.proofs.Columns.{Triangular, triangular_substitute, first_column}
use Rattle.root_tree.proofs.Elements.{SymbolColumns, zero_elements, number_shift, shift_element, substitute_coefficient}
use Rattle.root_tree.proofs.Search.{strip_yes, strip_no, first_symbols, branch, search_zero, search_suc, next_symbols}
use Rattle.root_tree.proofs.Values.{shift_coefficient}

-- the zeros before the first other entry
unfoldable pub zeros_before : List ℕ → ℕ
zeros_before [] = 0
zeros_before (c ∷ p) = cond (eqb c 0) (suc (zeros_before p)) 0

-- they are zero
zeros_before_lem : (p : List ℕ) (k : ℕ) → k < zeros_before p → get_or p k 0 ≡ 0
unfolding zeros_before
zeros_before_lem [] k h = refl
zeros_before_lem (c ∷ p) zero h = split (eqb c 0) (λ y. eqb-true c 0 y) (λ n. absurd (not-suc-le-zero (rw n at h)))
zeros_before_lem (c ∷ p) (suc k) h = split (eqb c 0) (λ y. zeros_before_lem p k (le_of_suc-le-suc (rw y at h))) (λ n. absurd (not-suc-le-zero (rw n at h)))

-- and the entry after them is not
other_after : (p : List ℕ) → is_zero p ≡ false → get_or p (zeros_before p) 0 ≡ 0 → ⊥
unfolding zeros_before is_zero
other_after [] e = λ _. true≢false e
other_after (c ∷ p) e = split (eqb c 0) (λ y. rw y (other_after p (rw y at e))) (λ n. rw n (eqb-false c 0 n))

-- the first column of what is stripped stands no later than any column that is not zero
strip_first : (A : Code) (n j : ℕ) (M : List (List ℕ)) → Triangular (numbers A) n M → is_zero (get_or M j []) ≡ false
    → (length (first (numbers A) (strip M)) ≤ suc (n + j)) × (is_zero (first (numbers A) (strip M)) ≡ false)
unfolding first is_zero
strip_first A n j [] t e = absurd (true≢false e)
strip_first A n zero (p ∷ M) t e = let h = t.0 in rw (strip_no p M e) (omega arith, e)
strip_first A n (suc j) (p ∷ M) t e =
    let h = t.0 in
    split (is_zero p)
    (λ y. let r = strip_first A (suc n) j M t.1 e in let l = r.0 in rw (strip_yes p M y) (omega arith, r.1))
    (λ f. rw (strip_no p M f) (omega arith, f))

-- no more rows than prefixes of their length
module _ (C : Code) where
  -- of one symbol
  branch_length : (b : Bool) (c : ℕ) (L : List (List ℕ)) (n : ℕ) → length L ≤ n → length (cond b (map (λ (f : List ℕ). c ∷ f) L) []) ≤ cond b n 0
  branch_length true c L n h = rw (length-map L (λ (f : List ℕ). c ∷ f)) h
  branch_length false c L n h = omega arith

  -- with no level left there is at most one
  one_row : (b : Bool) → length (cond {A = List (List ℕ)} b ([] ∷ []) []) ≤ 1
  one_row true = omega arith
  one_row false = omega arith

  -- of all
  pub rows_at_most_prefixes : (k : ℕ) (M : List (List ℕ)) → length (search C k M) ≤ prefixes C k M
  unfolding prefixes
  rows_at_most_prefixes zero M = rw (search_zero C M) (one_row (constants_zero M))
  rows_at_most_prefixes (suc k) M =
      rw (search_suc C k M, length_join (branch C k M) C.symbols)
      (sum_le C.symbols _ _
      (λ c h. branch_length (begins C c M) c (search C k (next C c M)) (prefixes C k (next C c M)) (rows_at_most_prefixes k (next C c M))))

module _ (C : Code) (F : FieldOf C) where
  -- how often c is a root of p
  abbrev pub multiplicity_of : ℕ → List ℕ → ℕ
  multiplicity_of c p = zeros_before (shift (numbers C) c p)

  module _ (p : List ℕ) (s : Symbols C p) (z : is_zero p ≡ false) where
    -- p, shifted, is not zero
    shift_nonzero : (c : ℕ) → c < C.symbols → is_zero (shift (numbers C) c p) ≡ false
    shift_nonzero c hc =
        split (is_zero (shift (numbers C) c p))
        (λ y. absurd (true≢false (sym (zero_elements C F p s
        (root_counting F.ring F.field 1 (λ _. F.element c) (λ _. length p) (λ i j h k. let b : ⊥ = omega arith in absurd b) (elements C F p)
        (rw (sum_one (λ _. length p), length-map p F.element) (omega arith))
        (λ j _ k l. shift_coefficient F.ring (F.element c) (elements C F p) k ∙ shift_element C F c hc p s k
        ∙ ap F.element (zeros_of_is_zero (shift (numbers C) c p) y k) ∙ element_zero C F))) ∙ z)))
        (λ e. e)

    -- the multiplicities of all symbols together are at most the degree
    multiplicities_below : sum C.symbols (λ (c : ℕ). multiplicity_of c p) < length p
    multiplicities_below =
        elim (dec_lt (sum C.symbols (λ (c : ℕ). multiplicity_of c p)) (length p)) [
          | yes h ↦ h
          | no n ↦ absurd (true≢false (sym (zero_elements C F p s
              (root_counting F.ring F.field C.symbols F.element (λ (c : ℕ). multiplicity_of c p) apart (elements C F p)
              (rw (length-map p F.element) (omega arith))
              (λ c hc k l. shift_coefficient F.ring (F.element c) (elements C F p) k ∙ shift_element C F c hc p s k
              ∙ ap F.element (zeros_before_lem (shift (numbers C) c p) k l) ∙ element_zero C F))) ∙ z))
        ]
      where
        -- different symbols are different elements
        apart : (i j : ℕ) → i < j → j < C.symbols → F.element i ≢ F.element j
        apart i j h k e =
            let f : i ≡ j = sym (F.number_element i (omega arith)) ∙ ap F.number.φ e ∙ F.number_element j k in
            let b : ⊥ = omega arith in b

    -- a root has multiplicity 1 or more
    multiplicity_positive : (c : ℕ) → c < C.symbols → value (numbers C) c p ≡ 0 → 1 ≤ multiplicity_of c p
    multiplicity_positive c hc v =
        elim (dec_lt 0 (multiplicity_of c p)) [
          | yes h ↦ h
          | no n ↦
              let k : multiplicity_of c p ≡ 0 = omega arith in
              absurd (other_after (shift (numbers C) c p) (shift_nonzero c hc)
              (ap (λ (j : ℕ). get_or (shift (numbers C) c p) j 0) k
              ∙ ap (λ (l : List ℕ). get_or l 0 0) (sym (number_shift C F c hc p s))
              ∙ number_at C F (shift F.ring.ops (F.element c) (elements C F p)) 0
              ∙ ap F.number.φ (sym (shift_coefficient F.ring (F.element c) (elements C F p) 0) ∙ taylor_zero F.ring (F.element c) (elements C F p))
              ∙ number_value C F (F.element c) p s ∙ ap (λ (x : ℕ). value (numbers C) x p) (F.number_element c hc) ∙ v))
        ]

  module _ (M : List (List ℕ)) (s : SymbolColumns C M) (z : is_zero (first (numbers C) M) ≡ false) where
    -- after a symbol of multiplicity m, M(0, y) has degree at most m
    next_first : (c : ℕ) → c < C.symbols
        → (length (first (numbers C) (next C c M)) ≤ suc (multiplicity_of c (first (numbers C) M))) × (is_zero (first (numbers C) (next C c M)) ≡ false)
    next_first c hc =
        let p = first (numbers C) M in
        let m = multiplicity_of c p in
        let e : coefficient (numbers C) (substitute (numbers C) c M) m m ≡ get_or (shift (numbers C) c p) m 0 =
        ap (λ (u : ℕ). coefficient (numbers C) (substitute (numbers C) c M) u m) (sym (zero-add m)) ∙ substitute_coefficient C F c hc M s 0 m
        ∙ ap (λ (q : List ℕ). get_or (shift (numbers C) c q) m 0) (first_column (numbers C) M) in
        let r = strip_first C zero m (substitute (numbers C) c M) (triangular_substitute (numbers C) c M)
        (is_zero_false (get_or (substitute (numbers C) c M) m []) m (λ w. other_after (shift (numbers C) c p) (shift_nonzero p (first_symbols C M s) z c hc) (sym e ∙ w))) in
        (rw (zero-add m) at r.0, r.1)

    -- a symbol that is gone on with has multiplicity 1 or more
    begins_positive : (c : ℕ) → c < C.symbols → begins C c M ≡ true → 1 ≤ multiplicity_of c (first (numbers C) M)
    unfolding begins
    begins_positive c hc b = multiplicity_positive (first (numbers C) M) (first_symbols C M s) z c hc (eqb-true (value (numbers C) c (first (numbers C) M)) 0 b)

    -- what is not gone on with counts nothing
    cond_le : (b : Bool) (g n : ℕ) → (b ≡ true → g ≤ n) → cond b g 0 ≤ n
    cond_le true g n h = h refl
    cond_le false g n h = omega arith

    -- what is at most q for each unit of multiplicity is at most q d in all
    together : (q d : ℕ) → length (first (numbers C) M) ≤ suc d → (g : ℕ → ℕ)
        → ((c : ℕ) → c < C.symbols → begins C c M ≡ true → g c ≤ q * multiplicity_of c (first (numbers C) M))
        → sum C.symbols (λ (c : ℕ). cond (begins C c M) (g c) 0) ≤ q * d
    together q d l g h =
        let p = first (numbers C) M in
        let a = sum_le C.symbols (λ (c : ℕ). cond (begins C c M) (g c) 0) (λ (c : ℕ). q * multiplicity_of c p)
        (λ c hc. cond_le (begins C c M) (g c) (q * multiplicity_of c p) (h c hc)) in
        let b = multiplicities_below p (first_symbols C M s) z in
        le_trans (rw (sum_times C.symbols q (λ (c : ℕ). multiplicity_of c p)) at a) (mul-le-mul_left q (omega arith))

  -- at each level at most d prefixes, where d is 1 or more
  prefixes_le : (k d : ℕ) (M : List (List ℕ)) → SymbolColumns C M → is_zero (first (numbers C) M) ≡ false → 1 ≤ d → length (first (numbers C) M) ≤ suc d
      → prefixes C k M ≤ d
  unfolding prefixes
  prefixes_le zero d M s z h l = h
  prefixes_le (suc k) d M s z h l =
      let r = together M s z 1 d l (λ (c : ℕ). prefixes C k (next C c M))
      (λ c hc b. let w = next_first M s z c hc in
      let v = prefixes_le k (multiplicity_of c (first (numbers C) M)) (next C c M) (next_symbols C F c hc M s) w.1 (begins_positive M s z c hc b) w.0 in
      omega arith) in
      omega arith

  -- at each level but the first, of no symbols, at most d prefixes, d being the degree of the stripped M(0, y)
  pub prefixes_at_most : (k d : ℕ) (M : List (List ℕ)) → SymbolColumns C M → is_zero (first (numbers C) M) ≡ false → length (first (numbers C) M) ≤ suc d
      → prefixes C (suc k) M ≤ d
  unfolding prefixes
  prefixes_at_most k d M s z l =
      let r = together M s z 1 d l (λ (c : ℕ). prefixes C k (next C c M))
      (λ c hc b. let w = next_first M s z c hc in
      let v = prefixes_le k (multiplicity_of c (first (numbers C) M)) (next C c M) (next_symbols C F c hc M s) w.1 (begins_positive M s z c hc b) w.0 in
      omega arith) in
      omega arith

  -- a prefix and those below it
  one_level_more : (k m n : ℕ) → 1 ≤ m → n ≤ k * m → suc n ≤ suc k * m
  one_level_more k m n h l = rw (suc-mul k m) (omega arith)

  -- over all levels from 1 to k, at most k d
  pub all_prefixes_at_most : (k d : ℕ) (M : List (List ℕ)) → SymbolColumns C M → is_zero (first (numbers C) M) ≡ false → length (first (numbers C) M) ≤ suc d
      → all_prefixes C k M ≤ k * d
  unfolding all_prefixes
  all_prefixes_at_most zero d M s z l = omega arith
  all_prefixes_at_most (suc k) d M s z l =
      together M s z (suc k) d l (λ (c : ℕ). suc (all_prefixes C k (next C c M)))
      (λ c hc b. let w = next_first M s z c hc in
      one_level_more k (multiplicity_of c (first (numbers C) M)) (all_prefixes C k (next C c M)) (begins_positive M s z c hc b)
      (all_prefixes_at_most k (multiplicity_of c (first (numbers C) M)) (next C c M) (next_symbols C F c hc M s) w.1 w.0))
