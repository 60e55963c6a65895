-- Smallest of all: the monomials of a lower degree limit begin those of a higher one, so a polynomial that passes can be taken for one of any limit
-- that its leading monomial is within, and ours is smallest among all.
-- Assumes nothing.
use mathlib.Core.Bool.{false}
use mathlib.Core.List.{List, [], ◌++◌, map, flat_map, append_assoc, append-nil}
use mathlib.Core.Path.{◌≡◌, refl, sym, ◌∙◌, ap, subst}
use Prim.Native.Nat.{ℕ, zero, suc, ◌+◌, ◌-◌, ◌≤◌, ◌<◌}
use native.Mathlib.Decide.{dec_lt}
use native.Mathlib.Omega.{arith}
use lib.ListN.{length, get_or, take, get_or-eq_default, get_or-map}
use lib.Seq.{get_or-take, take_at}
use Rattle.algebra.proofs.Elements.{element_zero}
use Rattle.algebra.proofs.Linear.{row, dot_ended, dot_equal, hasse_is_dot}
use Rattle.algebra.proofs.Numbers.{elements, numbers_elements}
use Rattle.algebra.proofs.Passing.{point_element, elements_pass, numbers_pass}
use Rattle.algebra.proofs.RingLaws.{plus_zero, times_zero}
use Rattle.algebra.specs.Dot.{dot}
use Rattle.algebra.specs.FieldOf.{FieldOf}
use Rattle.definitions.proofs.Bound.{count_no_less}
use Rattle.definitions.proofs.Joined.{join_below}
use Rattle.definitions.proofs.Monomials.{monomials_in_order}
use Rattle.definitions.proofs.Tools.{length_map_below, map_below_at}
use Rattle.definitions.proofs.Zeros.{is_zero_false}
use Rattle.definitions.specs.Bound.{count}
use Rattle.definitions.specs.Code.{Symbols}
use Rattle.definitions.specs.Field.{Ops, Code}
use Rattle.definitions.specs.Polynomial.{monomials_of, monomials, terms, derivative, hasse, Through, is_zero, leading, Interpolates}
use Rattle.definitions.specs.Tools.{below}
use Rattle.linear.proofs.Leading.{zero_after, leading_nonzero, leading_is}

module _ (v : ℕ) where
  more_monomials : (D r : ℕ) → (rest : List (ℕ × ℕ)) × (monomials v (D + r) ≡ monomials v D ++ rest)
  more_monomials D zero =
      let e : D + 0 ≡ D = omega arith in
      ([], ap (monomials v) e ∙ sym (append-nil (monomials v D)))
  more_monomials D (suc r) =
      let earlier = more_monomials D r in
      let next : D + suc r + 1 ≡ suc (D + r + 1) = omega arith in (
        earlier.0 ++ monomials_of v (D + r + 1),
        ap (λ (n : ℕ). flat_map (monomials_of v) (below n)) next ∙ join_below (monomials_of v) (D + r + 1)
            ∙ ap (λ (l : List (ℕ × ℕ)). l ++ monomials_of v (D + r + 1)) earlier.1
            ∙ append_assoc (monomials v D) earlier.0 (monomials_of v (D + r + 1)),
      )

  module _ (pos : 1 ≤ v) where
    -- `monomials v D` begins `monomials v E`
    pub monomials_begin : (D E : ℕ) → D ≤ E → take (count v D) (monomials v E) ≡ monomials v D
    monomials_begin D E h =
        let e : E ≡ D + (E - D) = omega arith in
        let more = more_monomials D (E - D) in
        ap (λ (x : ℕ). take (count v D) (monomials v x)) e ∙ ap (take (count v D)) more.1
        ∙ take_at (monomials v D) more.0 (count v D) (monomials_in_order v pos D).size

    -- so each has its place in both
    pub same_place : (D E k : ℕ) → D ≤ E → k < count v D → get_or (monomials v E) k (0, 0) ≡ get_or (monomials v D) k (0, 0)
    same_place D E k h l =
        sym (get_or-take (count v D) (monomials v E) k (0, 0) l) ∙ ap (λ (x : List (ℕ × ℕ)). get_or x k (0, 0)) (monomials_begin D E h)

-- the first N coefficients, zero where there are none
abbrev resized : ℕ → List ℕ → List ℕ
resized N p = map (λ (k : ℕ). get_or p k 0) (below N)

resized_at : (N : ℕ) (p : List ℕ) → ((k : ℕ) → N ≤ k → get_or p k 0 ≡ 0) → (k : ℕ) → get_or (resized N p) k 0 ≡ get_or p k 0
resized_at N p ends k =
    elim (dec_lt k N) [
      | yes l ↦ map_below_at (λ (j : ℕ). get_or p j 0) N k 0 l
      | no g ↦
          let size = length_map_below (λ (j : ℕ). get_or p j 0) N in
          get_or-eq_default (resized N p) 0 {n = k} (omega arith) ∙ sym (ends k (omega arith))
    ]

module _ (C : Code) (F : FieldOf C) (v : ℕ) (pos : 1 ≤ v) where
  abbrev G : Ops
  G = F.ring.ops

  entry_element : (p : List ℕ) (k : ℕ) → get_or (elements C F p) k G.o ≡ F.element (get_or p k 0)
  entry_element p k = ap (get_or (elements C F p) k) (sym (element_zero C F)) ∙ get_or-map F.element p k 0

  -- a derivative has no more terms than the coefficients that are not zero
  hasse_ended : (D N : ℕ) (p : List ℕ) → N ≤ count v D → ((k : ℕ) → N ≤ k → get_or p k 0 ≡ 0) → (s t : ℕ) (x y : G.K)
      → hasse G (terms G (elements C F p) (monomials v D)) s t x y ≡ dot G N (row G (monomials v D) s t x y) (λ k. F.element (get_or p k 0))
  hasse_ended D N p within ends s t x y =
      let r = row G (monomials v D) s t x y in
      hasse_is_dot F.ring (monomials v D) (elements C F p) s t x y
      ∙ ap (λ (w : ℕ). dot G w r (λ k. get_or (elements C F p) k G.o)) (monomials_in_order v pos D).size
      ∙ dot_equal G (count v D) r r (λ k. get_or (elements C F p) k G.o) (λ k. F.element (get_or p k 0)) (λ k _. refl) (λ k _. entry_element p k)
      ∙ dot_ended G (plus_zero F.ring) (count v D) N r (λ k. F.element (get_or p k 0)) within (λ k l _.
      ap (λ (z : ℕ). G.mul (r k) (F.element z)) (ends k l) ∙ ap (G.mul (r k)) (element_zero C F) ∙ times_zero F.ring (r k))

  -- the same coefficients under two limits, whose monomials agree as far as they go
  module _ (n D E N : ℕ) (m p q : List ℕ) (sp : Symbols C p) (sq : Symbols C q) (in_d : N ≤ count v D) (in_e : N ≤ count v E)
      (places : (k : ℕ) → k < N → get_or (monomials v D) k (0, 0) ≡ get_or (monomials v E) k (0, 0)) (same : (k : ℕ) → get_or q k 0 ≡ get_or p k 0)
      (ends : (k : ℕ) → N ≤ k → get_or p k 0 ≡ 0) where
    hasse_same : (s t : ℕ) (x y : G.K) → hasse G (terms G (elements C F q) (monomials v D)) s t x y ≡ hasse G (terms G (elements C F p) (monomials v E)) s t x y
    hasse_same s t x y =
        hasse_ended D N q in_d (λ k h. same k ∙ ends k h) s t x y
        ∙ dot_equal G N (row G (monomials v D) s t x y) (row G (monomials v E) s t x y) (λ k. F.element (get_or q k 0)) (λ k. F.element (get_or p k 0))
        (λ k h. ap (λ (z : ℕ × ℕ). G.mul (derivative G z.0 s x) (derivative G z.1 t y)) (places k h)) (λ k _. ap F.element (same k))
        ∙ sym (hasse_ended E N p in_e ends s t x y)

    still_through : Through C n v E m p → Through C n v D m q
    still_through through =
        subst (Through C n v D m) (numbers_elements C F q sq)
        (numbers_pass C F n v D m (elements C F q) (λ i h b s t k. hasse_same s t (point_element C F i) b ∙ elements_pass C F n v E m p sp through i h b s t k))

  -- no nonzero polynomial that passes, whatever its limit, has a smaller leading monomial
  module _ (n D E : ℕ) (m q p : List ℕ) (ours : Interpolates C n v D m q) (size : length p ≡ count v E) (sp : Symbols C p) (through : Through C n v E m p)
      (some : is_zero p ≡ false) where
    -- a leading place is within the coefficients
    led_within : leading p < length p
    led_within =
        elim (dec_lt (leading p) (length p)) [
          | yes h ↦ h
          | no g ↦ absurd (leading_nonzero p some (get_or-eq_default p 0 {n = leading p} (omega arith)))
        ]

    module _ (N : ℕ) (in_d : N ≤ count v D) (in_e : N ≤ count v E) (led : leading p < N) (ends : (k : ℕ) → N ≤ k → get_or p k 0 ≡ 0)
        (places : (k : ℕ) → k < N → get_or (monomials v D) k (0, 0) ≡ get_or (monomials v E) k (0, 0)) where
      abbrev taken : List ℕ
      taken = resized (count v D) p

      same : (k : ℕ) → get_or taken k 0 ≡ get_or p k 0
      same = resized_at (count v D) p (λ k h. ends k (omega arith))

      not_smaller : leading q ≤ leading p
      not_smaller =
          let nonzero : get_or taken (leading p) 0 ≡ 0 → ⊥ = λ z. leading_nonzero p some (sym (same (leading p)) ∙ z) in
          let symbols : Symbols C taken = λ k. rw (same k) (sp k) in
          let least = ours.least taken (length_map_below (λ (k : ℕ). get_or p k 0) (count v D)) symbols
          (still_through n D E N m p taken sp symbols in_d in_e places same ends through) (is_zero_false taken (leading p) nonzero) in
          let place = leading_is taken (leading p) nonzero (λ k h. same k ∙ zero_after p k h) in
          omega arith

    pub smallest_of_all : leading q ≤ leading p
    smallest_of_all =
        let within = led_within in
        elim (dec_lt (leading p) (count v D)) [
          | yes low ↦
              elim (dec_lt D E) [
                | yes l ↦
                    not_smaller (count v D) (omega arith) (count_no_less v pos D E (omega arith)) low (λ k h. zero_after p k (omega arith))
                    (λ k h. sym (same_place v pos D E k (omega arith) h))
                | no g ↦
                    not_smaller (count v E) (count_no_less v pos E D (omega arith)) (omega arith) (omega arith)
                    (λ k h. get_or-eq_default p 0 {n = k} (omega arith)) (λ k h. same_place v pos E D k (omega arith) h)
              ]
          | no high ↦
              elim (dec_lt (leading q) (length q)) [
                | yes h ↦ (let e = ours.size in omega arith)
                | no g ↦ absurd (leading_nonzero q ours.nonzero (get_or-eq_default q 0 {n = leading q} (omega arith)))
              ]
        ]
