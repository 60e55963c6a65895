-- Elimination on rows of symbols, in any code that carries a field: a step keeps the solutions and the triangle gains a column, and what back
-- substitution makes of the triangle is the solution that ends first.
-- Assumes nothing.
use mathlib.Core.List.{List}
use mathlib.Core.Logic.{◌≢◌}
use mathlib.Core.Path.{◌≡◌, sym, ◌∙◌, ap, subst}
use Prim.Native.Nat.{ℕ, zero, suc, ◌+◌, ◌≤◌, ◌<◌}
use native.Mathlib.Decide.{ℕ_discrete, dec_lt}
use native.Mathlib.Omega.{arith}
use lib.ListN.{get_or}
use Rattle.algebra.proofs.Elements.{number_injective, one_not_zero, symbol_injective, plus_none, none_times}
use Rattle.algebra.proofs.Elements.{zero_symbol, one_symbol, plus_symbol, times_symbol}
use Rattle.algebra.proofs.Elements.{zero_element, element_zero, element_one, element_plus, element_times}
use Rattle.algebra.proofs.Solutions.{number_dot}
use Rattle.algebra.proofs.RingLaws.{zero_times}
use Rattle.algebra.specs.FieldOf.{FieldOf}
use Rattle.algebra.specs.Grid.{entry_of}
use Rattle.definitions.specs.Code.{Symbols}
use Rattle.definitions.specs.Field.{Ops, Code, numbers}
use Rattle.linear.proofs.Triangle.{Sol, TriangleColumns, Stepped, solves_after, solves_before, triangle_more, back_solves, none_before, carry_behind, behind_none, behind_more, behind_equal}
use Rattle.linear.specs.Rows.{SymbolRows, Solves, SameSolutions, Triangle, Reduced, behind, Back}

module _ (C : Code) (F : FieldOf C) where
  -- the operations on elements
  abbrev G : Ops
  G = F.ring.ops

  -- the operations on numbers
  abbrev N : Ops
  N = numbers C

  -- a multiple by 0 adds nothing
  pub plus_nothing : (a b : ℕ) → a < C.symbols → b < C.symbols → a ≡ C.plus a (C.times 0 b)
  plus_nothing a b ha hb = sym (ap (C.plus a) (none_times C F b hb) ∙ plus_none C F a ha)

  -- what lies behind is a symbol, of symbols
  pub behind_symbol : (y s n : ℕ) (r q : ℕ → ℕ) → y < C.symbols → ((k : ℕ) → r k < C.symbols) → ((k : ℕ) → s < k → k < n → q k < C.symbols)
      → behind N y s n r q < C.symbols
  behind_symbol y s zero r q hy hr hq = subst (λ (x : ℕ). x < C.symbols) (sym (behind_none N y s zero r q (omega arith))) hy
  behind_symbol y s (suc n) r q hy hr hq =
      elim (dec_lt s n) [
        | yes l ↦
            subst (λ (x : ℕ). x < C.symbols) (sym (behind_more N y s n r q l))
            (plus_symbol C F (behind N y s n r q) (C.times (r n) (q n)) (behind_symbol y s n r q hy hr (λ k g f. hq k g (omega arith)))
            (times_symbol C F (r n) (q n) (hr n) (hq n l (omega arith))))
        | no l ↦ subst (λ (x : ℕ). x < C.symbols) (sym (behind_none N y s (suc n) r q (omega arith))) hy
      ]

  module _ (m : List (List ℕ)) (j : ℕ) (sm : SymbolRows C m) (q : List ℕ) (back : Back C j m q) (one : get_or q j 0 ≡ 1)
      (ends : (k : ℕ) → j < k → get_or q k 0 ≡ 0) where
    -- from j on there are symbols
    back_past : (k : ℕ) → j ≤ k → get_or q k 0 < C.symbols
    back_past k h =
        elim (ℕ_discrete k j) [
          | yes e ↦ subst (λ (x : ℕ). x < C.symbols) (sym (ap (λ (x : ℕ). get_or q x 0) e ∙ one)) (one_symbol C F)
          | no e ↦ subst (λ (x : ℕ). x < C.symbols) (sym (ends k (omega arith))) (zero_symbol C F)
        ]

    -- and from n places before it
    back_from : (n k : ℕ) → j ≤ n + k → get_or q k 0 < C.symbols
    back_from zero k h = back_past k (omega arith)
    back_from (suc n) k h =
        elim (dec_lt k j) [
          | yes l ↦
              subst (λ (x : ℕ). x < C.symbols) (sym (back k l))
              (behind_symbol (entry_of m k j) k j (entry_of m k) (λ a. get_or q a 0) (sm k j) (sm k) (λ a g f. back_from n a (omega arith)))
          | no l ↦ back_past k (omega arith)
        ]

    -- so all are
    pub back_symbols : Symbols C q
    back_symbols k = back_from j k (omega arith)

  -- the elements of a list of rows
  grid : List (List ℕ) → ℕ → ℕ → G.K
  grid m r k = F.element (entry_of m r k)

  -- and of a vector
  vector : List ℕ → ℕ → G.K
  vector q k = F.element (get_or q k 0)

  module _ (rows w : ℕ) where
    -- elements solve where numbers do
    elements_solve : (m : List (List ℕ)) → SymbolRows C m → (q : List ℕ) → Symbols C q → Solves C rows w m q → Sol G rows w (grid m) (vector q)
    unfolding grid vector
    elements_solve m sm q sq s r h = number_injective C F _ G.o (number_dot C F (entry_of m r) (λ k. get_or q k 0) (sm r) sq w ∙ s r h ∙ sym F.number.φ_zero)

    -- and numbers where elements do
    numbers_solve : (m : List (List ℕ)) → SymbolRows C m → (q : List ℕ) → Symbols C q → Sol G rows w (grid m) (vector q) → Solves C rows w m q
    unfolding grid vector
    numbers_solve m sm q sq s r h = sym (number_dot C F (entry_of m r) (λ k. get_or q k 0) (sm r) sq w) ∙ ap F.number.φ (s r h) ∙ F.number.φ_zero

    -- ---- a step

    -- a triangle of elements
    triangle_elements : (j : ℕ) (m : List (List ℕ)) → Triangle rows j m → TriangleColumns G rows j (grid m)
    unfolding grid
    triangle_elements j m u k h = (ap F.element (u k h).0 ∙ element_one C F, λ a l n. ap F.element ((u k h).1 a l n) ∙ element_zero C F)

    -- and of numbers
    triangle_numbers : (j : ℕ) (m : List (List ℕ)) → SymbolRows C m → TriangleColumns G rows j (grid m) → Triangle rows j m
    unfolding grid
    triangle_numbers j m sm u k h = (
      symbol_injective C F (entry_of m k k) 1 (sm k k) (one_symbol C F) ((u k h).0 ∙ sym (element_one C F)),
      λ a l n. zero_element C F (entry_of m a k) (sm a k) ((u k h).1 a l n),
    )

    module _ (m b : List (List ℕ)) (r j u : ℕ) (sm : SymbolRows C m) (sb : SymbolRows C b) (hr : r < rows) (hj : j < rows) (hu : u < C.symbols)
        (p : Stepped N rows w (entry_of m) (entry_of b) r j u) where
      -- a step on numbers is a step on their elements
      stepped : Stepped G rows w (grid m) (grid b) r j (F.element u)
      unfolding grid
      stepped = record {
        pivot = λ k h. ap F.element (p.pivot k h) ∙ element_times C F u (entry_of m r k) hu (sm r k);
        moved = λ n k h. ap F.element (p.moved n k h) ∙ cleared (entry_of m j k) (entry_of m j j) (entry_of b j k) (sm j k) (sm j j) (sb j k);
        below = λ t l f n k h. ap F.element (p.below t l f n k h) ∙ cleared (entry_of m t k) (entry_of m t j) (entry_of b j k) (sm t k) (sm t j) (sb j k);
        above = λ t l k h. ap F.element (p.above t l k h);
      }
        where
          cleared : (x c y : ℕ) → x < C.symbols → c < C.symbols → y < C.symbols
              → F.element (C.plus x (C.times c y)) ≡ G.add (F.element x) (G.mul (F.element c) (F.element y))
          cleared x c y hx hc hy =
              element_plus C F x (C.times c y) hx (times_symbol C F c y hc hy) ∙ ap (G.add (F.element x)) (element_times C F c y hc hy)

      module _ (one : C.times u (entry_of m r j) ≡ 1) where
        -- u is the inverse of the pivot
        inverts : G.mul (F.element u) (F.element (entry_of m r j)) ≡ G.i
        inverts = sym (element_times C F u (entry_of m r j) hu (sm r j)) ∙ ap F.element one ∙ element_one C F

        -- a number that has an inverse is not zero
        nonzero : F.element u ≢ G.o
        nonzero e = one_not_zero C F (sym inverts ∙ ap (λ (x : G.K). G.mul x (F.element (entry_of m r j))) e ∙ zero_times F.ring (F.element (entry_of m r j)))

        -- a step keeps the solutions
        pub step_solutions : SameSolutions C rows w m b
        step_solutions q sq = (
          λ s. numbers_solve b sb q sq (solves_after F.ring F.field rows w (grid m) (grid b) r j (F.element u) hr hj stepped (vector q) (elements_solve m sm q sq s)),
          λ s. numbers_solve m sm q sq (solves_before F.ring F.field rows w (grid m) (grid b) r j (F.element u) hr hj stepped (vector q) nonzero (elements_solve b sb q sq s)),
        )

        -- and the triangle gains a column
        pub step_triangle : j < w → j ≤ r → Triangle rows j m → Triangle rows (suc j) b
        unfolding grid
        step_triangle hw low columns =
            triangle_numbers (suc j) b sb
            (triangle_more F.ring F.field rows w (grid m) (grid b) r j (F.element u) hr hj stepped hw low inverts (triangle_elements j m columns))

    -- ---- what the triangle shows

    module _ (m : List (List ℕ)) (j : ℕ) (sm : SymbolRows C m) (hj : j < w) (hr : j ≤ rows) (d : Reduced rows j m) where
      -- what back substitution gives, then 1, then zeros, solves
      pub triangle_solves : (q : List ℕ) → Symbols C q → Back C j m q → get_or q j 0 ≡ 1
          → ((k : ℕ) → j < k → k < w → get_or q k 0 ≡ 0) → Solves C rows w m q
      unfolding grid vector
      triangle_solves q sq back one ends =
          numbers_solve m sm q sq
          (back_solves F.ring rows w (grid m) j hj hr (triangle_elements j m d.0) (λ a l h. ap F.element (d.1 a l h) ∙ element_zero C F) (vector q)
          (λ k l h. ap F.element (ends k l h) ∙ element_zero C F) (ap F.element one ∙ element_one C F)
          (λ s h. number_injective C F _ _ (number_back s h)))
        where
          number_back : (s : ℕ) → s < j → F.number.φ (vector q s) ≡ F.number.φ (behind G (grid m s j) s j (grid m s) (vector q))
          number_back s h =
              F.number_element (get_or q s 0) (sq s) ∙ back s h
              ∙ ap (λ (y : ℕ). behind N y s j (entry_of m s) (λ k. get_or q k 0)) (sym (F.number_element (entry_of m s j) (sm s j)))
              ∙ behind_equal N _ s j (entry_of m s) _ (λ k. get_or q k 0) _ (λ k _ _. sym (F.number_element (entry_of m s k) (sm s k)))
              (λ k _ _. sym (F.number_element (get_or q k 0) (sq k)))
              ∙ sym (carry_behind G N F.number (grid m s j) s j (grid m s) (vector q))

      -- and no other than zero ends earlier
      pub triangle_least : (q : List ℕ) → Symbols C q → Solves C rows w m q → ((k : ℕ) → j ≤ k → k < w → get_or q k 0 ≡ 0)
          → (k : ℕ) → k < w → get_or q k 0 ≡ 0
      unfolding vector
      triangle_least q sq s ends k h =
          zero_element C F (get_or q k 0) (sq k)
          (none_before F.ring rows w (grid m) j hj hr (triangle_elements j m d.0) (vector q) (elements_solve m sm q sq s)
          (λ a l f. ap F.element (ends a l f) ∙ element_zero C F) k h)
