-- The theorems: the search finds exactly the y-roots of document 01, and at each level it comes to at most as many prefixes as the whole part of
-- D/v; so there are never more roots.
-- Assumes nothing.
use mathlib.Core.Bool.{true, false, true≢false}
use mathlib.Core.List.{List, [], ◌∷◌, map, Memᴰ}
use mathlib.Core.Path.{◌≡◌, refl, sym, ◌∙◌, ap, ap₂, subst}
use Prim.Native.Nat.{ℕ, zero, suc, ◌+◌, ◌*◌, ◌-◌, ◌/◌, ◌≤◌, ◌<◌}
use native.Mathlib.Decide.{dec_lt}
use native.Mathlib.Nat.{le-div_iff_mul-le, le_trans}
use native.Mathlib.Omega.{arith}
use lib.ListN.{length, get_or, take, drop, set, length-replicate, length-map}
use Rattle.definitions.proofs.Monomials.{monomials_in_order}
use Rattle.definitions.proofs.Tools.{split}
use Rattle.definitions.proofs.Zeros.{zeros_of_is_zero, is_zero_of_zeros, zero_at}
use Rattle.definitions.specs.Bound.{count}
use Rattle.definitions.specs.Code.{Symbols, messages}
use Rattle.definitions.specs.Field.{Ops, Code, numbers}
use Rattle.definitions.specs.Polynomial.{terms, monomials, is_zero}
use Rattle.definitions.specs.Roots.{compose, is_root, roots_of}
use Rattle.definitions.specs.Tools.{select}
use Rattle.algebra.specs.FieldOf.{FieldOf}
use Rattle.algebra.proofs.Carry.{carried}
use Rattle.algebra.proofs.Elements.{number_injective, zero_symbol, element_zero}
use Rattle.algebra.proofs.Composition.{value_at, evaluate_compose}
use Rattle.algebra.proofs.Numbers.{elements, number_at, number_compose, compose_zero}
use Rattle.algebra.proofs.RingLaws.{zero_plus}
use Rattle.algebra.proofs.Series.{Series, constants, linear}
use Rattle.algebra.proofs.Taylor.{taylor}
use Rattle.root_tree.specs.Columns.{coefficient, first, columns, loaded}
use Rattle.root_tree.specs.Tree.{zeros, strip, search, prefixes, all_prefixes, grid}
use Rattle.root_tree.proofs.Arrays.{take_short, columns_within, columns_beyond, columns_above, loaded_keeps, loaded_zero, value_columns_zero, value_loaded, place_once}
use Rattle.root_tree.proofs.Count.{rows_at_most_prefixes, prefixes_at_most, all_prefixes_at_most}
use Rattle.root_tree.proofs.Elements.{SymbolColumns, column_elements, element_at}
use Rattle.root_tree.proofs.Search.{Decides, strip_nil, strip_yes, strip_no, strip_symbols, strip_root, root_strip, search_selects}
use Rattle.root_tree.proofs.Values.{value_of, along, series_coefficient}

-- zeros are zero wherever they are read
pub zeros_at : (n i : ℕ) → get_or (zeros n) i 0 ≡ 0
unfolding zeros
zeros_at n i = zero_at n i

-- n of them
pub length_zeros : (n : ℕ) → length (zeros n) ≡ n
unfolding zeros
length_zeros n = length-replicate {A = ℕ} n 0

-- where the stripped polynomial begins with zeros it is zero
zero_first : (A : Code) (M : List (List ℕ)) → is_zero (first (numbers A) (strip M)) ≡ true → (a b : ℕ) → coefficient (numbers A) M a b ≡ 0
unfolding first
zero_first A [] z a b = refl
zero_first A (p ∷ M) z a b =
    split (is_zero p) (λ y. all p M a b y (zero_first A M (rw (strip_yes p M y) at z)))
    (λ n. absurd (true≢false (sym (rw (strip_no p M n) at z) ∙ n)))
  where
    -- a column of zeros more
    all : (p : List ℕ) (M : List (List ℕ)) (a b : ℕ) → is_zero p ≡ true → ((a b : ℕ) → coefficient (numbers A) M a b ≡ 0)
        → coefficient (numbers A) (p ∷ M) a b ≡ 0
    all p M zero b y f = zeros_of_is_zero p y b
    all p M (suc a) b y f = f a b

-- the columns of an array are of its height, also the first that is not zero
strip_height : (A : Code) (h w : ℕ) (l : List ℕ) → length (first (numbers A) (strip (columns (numbers A) h w l))) ≤ h
unfolding first columns
strip_height A h zero l = rw strip_nil (omega arith)
strip_height A h (suc w) l =
    split (is_zero (take h l)) (λ y. rw (strip_yes (take h l) (columns (numbers A) h w (drop h l)) y) (strip_height A h w (drop h l)))
    (λ n. rw (strip_no (take h l) (columns (numbers A) h w (drop h l)) n) (take_short h l))

module _ (C : Code) where
  -- a list of symbols with one more put into it
  pub set_symbols : (l : List ℕ) (i c : ℕ) → c < C.symbols → Symbols C l → Symbols C (set l i c)
  set_symbols [] i c h s j = s j
  set_symbols (x ∷ l) zero c h s zero = h
  set_symbols (x ∷ l) zero c h s (suc j) = s (suc j)
  set_symbols (x ∷ l) (suc i) c h s zero = s zero
  set_symbols (x ∷ l) (suc i) c h s (suc j) = set_symbols l i c h (λ k. s (suc k)) j

  -- or a list of them
  pub loaded_symbols : (h : ℕ) (q : List ℕ) (L : List (ℕ × ℕ)) (l : List ℕ) → Symbols C q → Symbols C l → Symbols C (loaded (numbers C) h q L l)
  unfolding loaded
  loaded_symbols h [] L l s z = z
  loaded_symbols h (c ∷ q) [] l s z = z
  loaded_symbols h (c ∷ q) (m ∷ L) l s z =
      loaded_symbols h q L (set l (m.0 * h + m.1) c) (λ j. s (suc j)) (set_symbols l (m.0 * h + m.1) c (s zero) z)

  -- the columns of an array of symbols
  pub columns_symbols : 0 < C.symbols → (h w : ℕ) (l : List ℕ) → Symbols C l → SymbolColumns C (columns (numbers C) h w l)
  columns_symbols pos h w l s a j =
      elim (dec_lt a w) [
        | yes p ↦ elim (dec_lt j h) [
          | yes q ↦ rw (columns_within (numbers C) h w l a j p q) (s (a * h + j))
          | no n ↦ rw (columns_above (numbers C) h w l a j (omega arith)) pos
        ]
        | no n ↦ rw (columns_beyond (numbers C) h w l a j (omega arith)) pos
      ]

module _ (C : Code) (F : FieldOf C) where
  -- the operations on elements
  abbrev G : Ops
  G = F.ring.ops

  -- the operations on numbers
  abbrev N : Ops
  N = numbers C

  -- the elements of a part
  take_elements : (h : ℕ) (l : List ℕ) → elements C F (take h l) ≡ take h (elements C F l)
  take_elements zero l = refl
  take_elements (suc h) [] = refl
  take_elements (suc h) (x ∷ l) = ap (λ (k : List G.K). F.element x ∷ k) (take_elements h l)

  -- of the rest
  drop_elements : (h : ℕ) (l : List ℕ) → elements C F (drop h l) ≡ drop h (elements C F l)
  drop_elements zero l = refl
  drop_elements (suc h) [] = refl
  drop_elements (suc h) (x ∷ l) = drop_elements h l

  -- of a list with one put into it
  set_elements : (l : List ℕ) (i c : ℕ) → elements C F (set l i c) ≡ set (elements C F l) i (F.element c)
  set_elements [] i c = refl
  set_elements (x ∷ l) zero c = refl
  set_elements (x ∷ l) (suc i) c = ap (λ (k : List G.K). F.element x ∷ k) (set_elements l i c)

  -- of an array
  columns_elements : (h w : ℕ) (l : List ℕ) → column_elements C F (columns N h w l) ≡ columns G h w (elements C F l)
  unfolding columns
  columns_elements h zero l = refl
  columns_elements h (suc w) l =
      ap₂ (λ (p : List G.K) (L : List (List G.K)). p ∷ L) (take_elements h l)
      (columns_elements h w (drop h l) ∙ ap (columns G h w) (drop_elements h l))

  -- of a loaded array
  loaded_elements : (h : ℕ) (q : List ℕ) (L : List (ℕ × ℕ)) (l : List ℕ) → elements C F (loaded N h q L l) ≡ loaded G h (elements C F q) L (elements C F l)
  unfolding loaded
  loaded_elements h [] L l = refl
  loaded_elements h (c ∷ q) [] l = refl
  loaded_elements h (c ∷ q) (m ∷ L) l =
      loaded_elements h q L (set l (m.0 * h + m.1) c) ∙ ap (loaded G h (elements C F q) L) (set_elements l (m.0 * h + m.1) c)

  module _ (n v D : ℕ) (pos : 1 ≤ v) (room : (D + 1) * (D / v + 1) ≤ n) (q : List ℕ) (s : Symbols C q) where
    -- each monomial has its place
    pub monomial_place : (m : ℕ × ℕ) → Memᴰ m (monomials v D) → (m.1 < D / v + 1) × (m.0 < D + 1)
    monomial_place m i =
        let a = (monomials_in_order v pos D).within m i in
        let b : m.1 ≤ D / v = (le-div_iff_mul-le pos).1 (omega arith) in
        (omega arith, omega arith)

    -- zeros stand for zero elements
    zero_elements_at : (j : ℕ) → get_or (elements C F (zeros n)) j G.o ≡ G.o
    zero_elements_at j = element_at C F (zeros n) j ∙ ap F.element (zeros_at n j) ∙ element_zero C F

    -- M(x, f(x)) of the array is Q(x, f(x))
    along_grid : (f : List ℕ) (t : ℕ)
        → along F.ring (elements C F f) (column_elements C F (grid C n v D q)) t ≡ get_or (compose G (elements C F f) (terms G (elements C F q) (monomials v D))) t G.o
    unfolding along taylor
    along_grid f t =
        ap (λ (L : List (List G.K)). value_of F.ring (Series F.ring) (constants F.ring) (linear F.ring G.o) (taylor F.ring G.o (elements C F f)) L t)
        (columns_elements (D / v + 1) (D + 1) (loaded N (D / v + 1) q (monomials v D) (zeros n))
        ∙ ap (columns G (D / v + 1) (D + 1)) (loaded_elements (D / v + 1) q (monomials v D) (zeros n)))
        ∙ ap (λ (u : ℕ → G.K). u t)
        (value_loaded F.ring (Series F.ring) (constants F.ring) (linear F.ring G.o) (taylor F.ring G.o (elements C F f)) v (D / v + 1) (D + 1)
        (elements C F q) (monomials v D) (elements C F (zeros n)) (monomials_in_order v pos D).ordered monomial_place
        (rw (length-map (zeros n) F.element, length_zeros n) room) (λ m _. zero_elements_at (m.0 * (D / v + 1) + m.1))
        ∙ ap (λ (u : ℕ → G.K). (Series F.ring).ops.add u (value_at (Series F.ring) (linear F.ring G.o) (taylor F.ring G.o (elements C F f))
        (map (carried G (Series F.ring).ops (constants F.ring)) (terms G (elements C F q) (monomials v D)))))
        (value_columns_zero F.ring (Series F.ring) (constants F.ring) (linear F.ring G.o) (taylor F.ring G.o (elements C F f)) (D / v + 1) (D + 1)
        (elements C F (zeros n)) zero_elements_at)
        ∙ zero_plus (Series F.ring) (value_at (Series F.ring) (linear F.ring G.o) (taylor F.ring G.o (elements C F f))
        (map (carried G (Series F.ring).ops (constants F.ring)) (terms G (elements C F q) (monomials v D))))
        ∙ sym (evaluate_compose F.ring (Series F.ring) (constants F.ring) (linear F.ring G.o) (elements C F f) (terms G (elements C F q) (monomials v D))))
        ∙ series_coefficient F.ring (compose G (elements C F f) (terms G (elements C F q) (monomials v D))) t

    -- the weighted degree of the array is at most D
    pub under_grid : (a b : ℕ) → D < a + v * b → coefficient (numbers C) (grid C n v D q) a b ≡ 0
    under_grid a b l =
        elim (dec_lt a (D + 1)) [
          | yes p ↦ elim (dec_lt b (D / v + 1)) [
            | yes r ↦
                columns_within N (D / v + 1) (D + 1) (loaded N (D / v + 1) q (monomials v D) (zeros n)) a b p r
                ∙ loaded_keeps N (D / v + 1) q (monomials v D) (zeros n) (a * (D / v + 1) + b)
                (λ m i e.
                let g = place_once (D / v + 1) a b m.0 m.1 r (monomial_place m i).0 e in
                let d : m.0 + v * m.1 ≤ D = (monomials_in_order v pos D).within m i in
                let d' : a + v * b ≤ D = subst (λ (x : ℕ). x + v * b ≤ D) (sym g.0) (subst (λ (y : ℕ). m.0 + v * y ≤ D) (sym g.1) d) in
                let z : ⊥ = omega arith in z)
                ∙ zeros_at n (a * (D / v + 1) + b)
            | no m ↦ columns_above N (D / v + 1) (D + 1) (loaded N (D / v + 1) q (monomials v D) (zeros n)) a b (omega arith)
          ]
          | no m ↦ columns_beyond N (D / v + 1) (D + 1) (loaded N (D / v + 1) q (monomials v D) (zeros n)) a b (omega arith)
        ]

    -- its entries are symbols
    grid_symbols : SymbolColumns C (grid C n v D q)
    grid_symbols =
        columns_symbols C (zero_symbol C F) (D / v + 1) (D + 1) (loaded N (D / v + 1) q (monomials v D) (zeros n))
        (loaded_symbols C (D / v + 1) q (monomials v D) (zeros n) s (λ j. rw (zeros_at n j) (zero_symbol C F)))

    -- the page's test says which messages are roots of the array
    root_test : Decides C F (is_root C v D q) (strip (grid C n v D q))
    root_test f sf = (
      λ e. root_strip C F f (grid C n v D q) (λ t. along_grid f t
          ∙ number_injective C F (get_or (compose G (elements C F f) (terms G (elements C F q) (monomials v D))) t G.o) G.o
          (sym (number_at C F (compose G (elements C F f) (terms G (elements C F q) (monomials v D))) t)
          ∙ ap (λ (l : List ℕ). get_or l t 0) (number_compose C F f q (monomials v D) sf s)
          ∙ zeros_of_is_zero (compose N f (terms N q (monomials v D))) e t ∙ sym F.number.φ_zero)),
      λ r. compose_zero C F f q (monomials v D) sf s (λ t. sym (along_grid f t) ∙ strip_root C F f (grid C n v D q) r t),
    )

    -- also when it is stripped
    stripped_symbols : SymbolColumns C (strip (grid C n v D q))
    stripped_symbols = strip_symbols C (grid C n v D q) grid_symbols

    -- the search finds the messages with Q(x, f(x)) identically zero, in their order
    pub search_is_selection : (k : ℕ) → search C k (strip (grid C n v D q)) ≡ select (is_root C v D q) (messages C k)
    search_is_selection k = search_selects C F k (strip (grid C n v D q)) stripped_symbols (is_root C v D q) root_test

    module _ (full : length q ≤ count v D) (z : is_zero q ≡ false) where
      -- what is not zero as a list is not zero as an array
      first_nonzero : is_zero (first N (strip (grid C n v D q))) ≡ false
      first_nonzero =
          split (is_zero (first N (strip (grid C n v D q))))
          (λ y. absurd (true≢false (sym (is_zero_of_zeros q
          (loaded_zero N v (D / v + 1) (D + 1) q (monomials v D) (zeros n) (monomials_in_order v pos D).ordered monomial_place
          (rw (length_zeros n) room) (rw (monomials_in_order v pos D).size full)
          (λ a b ha hb. sym (columns_within N (D / v + 1) (D + 1) (loaded N (D / v + 1) q (monomials v D) (zeros n)) a b ha hb)
          ∙ zero_first C (grid C n v D q) y a b))) ∙ z)))
          (λ e. e)

      -- its first column is of its height
      first_short : length (first N (strip (grid C n v D q))) ≤ suc (D / v)
      first_short =
          let h = strip_height C (D / v + 1) (D + 1) (loaded N (D / v + 1) q (monomials v D) (zeros n)) in
          omega arith

      -- the count theorem: of each length from 1 on at most as many prefixes as the whole part of D/v
      pub prefixes_at_each_level : (k : ℕ) → prefixes C (suc k) (strip (grid C n v D q)) ≤ D / v
      prefixes_at_each_level k = prefixes_at_most C F k (D / v) (strip (grid C n v D q)) stripped_symbols first_nonzero first_short

      -- and of all lengths from 1 to k at most k times that
      pub prefixes_in_all : (k : ℕ) → all_prefixes C k (strip (grid C n v D q)) ≤ k * (D / v)
      prefixes_in_all k = all_prefixes_at_most C F k (D / v) (strip (grid C n v D q)) stripped_symbols first_nonzero first_short

      -- so there are at most as many rows
      rows_at_most : (k : ℕ) → length (search C (suc k) (strip (grid C n v D q))) ≤ D / v
      rows_at_most k = le_trans (rows_at_most_prefixes C (suc k) (strip (grid C n v D q))) (prefixes_at_each_level k)

  module _ (k D : ℕ) (two : 2 ≤ k) (q : List ℕ) (s : Symbols C q) where
    -- the search is document 01's y-roots: all there are, each once, in order
    pub search_is_roots : (n : ℕ) → (D + 1) * (D / (k - 1) + 1) ≤ n → search C k (strip (grid C n (k - 1) D q)) ≡ roots_of C D k q
    search_is_roots n room = search_is_selection n (k - 1) D (omega arith) room q s k

    -- "There are never more roots than the whole part of D/v"
    pub roots_at_most : length q ≤ count (k - 1) D → is_zero q ≡ false → length (roots_of C D k q) ≤ D / (k - 1)
    roots_at_most full z =
        let n = (D + 1) * (D / (k - 1) + 1) in
        let e : k ≡ suc (k - 1) = omega arith in
        subst (λ (l : List (List ℕ)). length l ≤ D / (k - 1)) (search_is_roots n (omega arith))
        (subst (λ (j : ℕ). length (search C j (strip (grid C n (k - 1) D q))) ≤ D / (k - 1)) (sym e)
        (rows_at_most n (k - 1) D (omega arith) (omega arith) q s full z (k - 1)))
