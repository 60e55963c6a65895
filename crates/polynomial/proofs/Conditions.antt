-- The masked rows of a matrix's conditions: as many as it costs, and what solves them is what passes.
-- Assumes nothing.
use mathlib.Core.List.Memᴰ
use mathlib.Core.List.{List, [], Memᴰ}
use mathlib.Core.Logic.{◌≢◌}
use mathlib.Core.Path.{◌≡◌, refl, sym, ◌∙◌, ap, subst}
use Prim.Native.Nat.{ℕ, ◌+◌, ◌-◌, ◌*◌, ◌/◌, ◌≤◌, ◌<◌}
use native.Mathlib.Omega.{arith}
use lib.ListN.{length, get_or}
use lib.Seq.{sets}
use Rattle.algebra.proofs.Masks.{point_nonzero}
use Rattle.algebra.proofs.Numbers.{point_symbol}
use Rattle.algebra.specs.Dot.{dot}
use Rattle.algebra.specs.FieldOf.{FieldOf}
use Rattle.algebra.specs.Grid.{entry_of}
use Rattle.conditions.proofs.Counts.{point_cost}
use Rattle.conditions.proofs.MaskedRows.{length_order_at}
use Rattle.conditions.proofs.Vanishing.{condition_row, length_condition_row, condition_row_symbols, row_vanishes}
use Rattle.conditions.specs.MaskedRows.{base_at, order_at, masked_point, point_at, masked_column, column_at, masked_rows}
use Rattle.monomials.specs.Rows.{exponent_rows, powers_row, values_row}
use Rattle.definitions.proofs.Joined.{join_member, member_join, length_join}
use Rattle.definitions.proofs.Ordered.{member_at}
use Rattle.definitions.proofs.Tools.{below_member, member_below, sum_ext}
use Rattle.definitions.specs.Bound.{count}
use Rattle.definitions.specs.Code.{Symbols, point}
use Rattle.definitions.specs.Field.{Code, numbers}
use Rattle.definitions.specs.Polynomial.{Through, hasse, terms, monomials}
use Rattle.definitions.specs.Tools.{below}
use Rattle.definitions.specs.Weights.{entry, entry_cost}
use Rattle.linear.specs.Rows.{Solves}
use Rattle.polynomial.proofs.Loaded.{entry_is, used}
use Rattle.polynomial.proofs.Placing.{place_of, placed_at, placed_each}
use Rattle.blocks.specs.Row.{width, block}
use Rattle.matrix.specs.Columns.{matrix_of, column_cost, matrix_cost}

-- ---- how many

-- the conditions of a point
length_point : (C : Code) (px : List ℕ) (n blocks : ℕ) (es : List (List ℕ)) (b m : ℕ) → length (masked_point C px n blocks es b m) ≡ entry_cost m
length_point C px n blocks es b m =
    let row = values_row C (blocks * block) px (powers_row C n (base_at b)) es in
    length_join (order_at blocks row es b m) m ∙ sum_ext m _ (λ s. m - s) (λ s h. length_order_at blocks row es b m s) ∙ point_cost m

-- of a position
length_column : (C : Code) (px : List ℕ) (n blocks : ℕ) (es : List (List ℕ)) (column : List ℕ) → length (masked_column C px n blocks es column) ≡ column_cost C column
length_column C px n blocks es column =
    length_join (point_at C px n blocks es column) C.symbols
    ∙ sum_ext C.symbols _ (λ b. entry_cost (get_or column b 0)) (λ b h. length_point C px n blocks es b (get_or column b 0))

-- there are as many conditions as the matrix costs
pub length_conditions : (C : Code) (v d blocks : ℕ) (a : List (List ℕ)) → length (masked_rows C v d blocks a) ≡ matrix_cost C a
length_conditions C v d blocks a =
    length_join (column_at C v d blocks a) C.positions
    ∙ sum_ext C.positions _ (λ i. column_cost C (get_or a i []))
    (λ i h. length_column C (powers_row C (d + 1) (point C i)) (d / v + 1) blocks (exponent_rows v (blocks * block)) (get_or a i []))

-- ---- which

-- a condition of a matrix: its position, symbol and orders, and its row
pub record Condition (C : Code) (v d blocks : ℕ) (a : List (List ℕ)) (ρ : List ℕ) : Type 0 where
  pub i : ℕ
  pub b : ℕ
  pub s : ℕ
  pub t : ℕ
  pub position : i < C.positions
  pub symbol : b < C.symbols
  pub order : s + t < entry_of a i b
  pub is_row : condition_row C v d blocks (point C i) b s t ≡ ρ

module _ (C : Code) (v d blocks : ℕ) (a : List (List ℕ)) where
  -- the rows of the symbols of position i
  abbrev points : ℕ → ℕ → List (List ℕ)
  points i = point_at C (powers_row C (d + 1) (point C i)) (d / v + 1) blocks (exponent_rows v (blocks * block)) (get_or a i [])

  -- the rows of the orders by x of symbol b there
  abbrev orders : ℕ → ℕ → ℕ → List (List ℕ)
  orders i b =
      order_at blocks (values_row C (blocks * block) (powers_row C (d + 1) (point C i)) (powers_row C (d / v + 1) (base_at b)) (exponent_rows v (blocks * block)))
      (exponent_rows v (blocks * block)) b (entry_of a i b)

  -- every row is one
  pub condition_of : (ρ : List ℕ) → Memᴰ ρ (masked_rows C v d blocks a) → Condition C v d blocks a ρ
  condition_of ρ h =
      let x = member_join (column_at C v d blocks a) (below C.positions) ρ h in
      let y = member_join (points x.0) (below C.symbols) ρ x.2 in
      let z = member_join (orders x.0 y.0) (below (entry_of a x.0 y.0)) ρ y.2 in
      let u = Memᴰ.of_map (λ t. condition_row C v d blocks (point C x.0) y.0 z.0 t) (below (entry_of a x.0 y.0 - z.0)) z.2 in
      record {
        i = x.0;
        b = y.0;
        s = z.0;
        t = u.0;
        position = member_below C.positions x.0 x.1;
        symbol = member_below C.symbols y.0 y.1;
        order = (let p = member_below (entry_of a x.0 y.0) z.0 z.1 in let q = member_below (entry_of a x.0 y.0 - z.0) u.0 u.1 in omega arith);
        is_row = u.2;
      }

  -- and every one is a row
  pub member_of : (ρ : List ℕ) → Condition C v d blocks a ρ → Memᴰ ρ (masked_rows C v d blocks a)
  member_of ρ c =
      join_member (column_at C v d blocks a) (below C.positions) c.i ρ (below_member C.positions c.i c.position)
      (join_member (points c.i) (below C.symbols) c.b ρ (below_member C.symbols c.b c.symbol)
      (join_member (orders c.i c.b) (below (entry_of a c.i c.b)) c.s ρ (below_member (entry_of a c.i c.b) c.s (let o = c.order in omega arith))
      (subst (λ (x : List ℕ). Memᴰ x (orders c.i c.b c.s)) c.is_row
      (Memᴰ.map (λ t. condition_row C v d blocks (point C c.i) c.b c.s t)
      (below_member (entry_of a c.i c.b - c.s) c.t (let o = c.order in omega arith))))))

-- ---- the system that holds them

module _ (C : Code) (v D blocks : ℕ) (a o : List (List ℕ)) (room : length (masked_rows C v D blocks a) ≤ length o) (r : ℕ) where
  -- its rows are rows of symbols where they were before
  pub conditions_symbols : FieldOf C → C.symbols ≤ 256 → Symbols C (get_or o r []) → Symbols C (get_or (sets o 0 (masked_rows C v D blocks a)) r [])
  conditions_symbols F bytes =
      placed_each o (masked_rows C v D blocks a) [] room (Symbols C)
      (λ ρ m.
      let c = condition_of C v D blocks a ρ m in
      subst (Symbols C) c.is_row (condition_row_symbols C F bytes v D blocks (point C c.i) c.b c.s c.t (point_symbol C F c.i) c.symbol)) r

  -- and of their width
  pub conditions_wide : blocks * block ≤ width → length (get_or o r []) ≡ width → length (get_or (sets o 0 (masked_rows C v D blocks a)) r []) ≡ width
  conditions_wide inside =
      placed_each o (masked_rows C v D blocks a) [] room (λ (ρ : List ℕ). length ρ ≡ width)
      (λ ρ m.
      let c = condition_of C v D blocks a ρ m in
      subst (λ (x : List ℕ). length x ≡ width) c.is_row (length_condition_row C v D blocks (point C c.i) c.b c.s c.t inside)) r

-- ---- what solves passes, and what passes solves

-- coefficients that end within the blocks
module _ (C : Code) (F : FieldOf C) (bytes : C.symbols ≤ 256) (nonzero : C.α ≢ 0) (m : List ℕ) (n v D blocks : ℕ) (small : n ≤ C.positions) (size : length m ≡ C.symbols * n)
    (pos : 0 < v) (inside : blocks * block ≤ width) (a : List (List ℕ)) (loaded : a ≡ matrix_of C m n) (q : List ℕ) (sq : Symbols C q)
    (e : ℕ) (made : e ≤ blocks * block) (few : e ≤ count v D) (ends : (k : ℕ) → e ≤ k → get_or q k 0 ≡ 0) where
  -- the row of a condition times q is zero exactly where the derivative is
  condition_vanishes : (ρ : List ℕ) (c : Condition C v D blocks a ρ)
      → (dot (numbers C) (blocks * block) (λ k. get_or ρ k 0) (λ k. get_or q k 0) ≡ 0
      → hasse (numbers C) (terms (numbers C) q (monomials v D)) c.s c.t (point C c.i) c.b ≡ 0)
      × (hasse (numbers C) (terms (numbers C) q (monomials v D)) c.s c.t (point C c.i) c.b ≡ 0
      → dot (numbers C) (blocks * block) (λ k. get_or ρ k 0) (λ k. get_or q k 0) ≡ 0)
  condition_vanishes ρ c =
      let r =
      row_vanishes C F bytes v D blocks (point C c.i) c.b c.s c.t (point_symbol C F c.i) c.symbol pos inside (point_nonzero C F nonzero c.i) q sq e made few ends in
      let same = ap (λ (x : List ℕ). dot (numbers C) (blocks * block) (λ k. get_or x k 0) (λ k. get_or q k 0)) c.is_row in
      (λ h. r.0 (same ∙ h), λ h. sym same ∙ r.1 h)

  module _ (o : List (List ℕ)) (room : length (masked_rows C v D blocks a) ≤ length o) where
    -- row r of the system is condition r
    stands : (r : ℕ) → r < length (masked_rows C v D blocks a) → get_or (sets o 0 (masked_rows C v D blocks a)) r [] ≡ get_or (masked_rows C v D blocks a) r []
    stands r h = placed_at o (masked_rows C v D blocks a) [] room r h

    -- what passes solves
    pub through_solves : Through C n v D m q → Solves C (length (masked_rows C v D blocks a)) (blocks * block) (sets o 0 (masked_rows C v D blocks a)) q
    through_solves passes r h =
        let ρ = get_or (masked_rows C v D blocks a) r [] in
        let c = condition_of C v D blocks a ρ (member_at (masked_rows C v D blocks a) r [] h) in
        let is = entry_is C m n small size a loaded c.i c.b c.position c.symbol in
        let below : c.s + c.t < entry C m c.i c.b = (let f = c.order in omega arith) in
        ap (λ (x : List ℕ). dot (numbers C) (blocks * block) (λ k. get_or x k 0) (λ k. get_or q k 0)) (stands r h)
        ∙ (condition_vanishes ρ c).1
        (passes c.i c.b (used C m n small size a loaded c.i c.b c.symbol (omega arith)) c.symbol c.s c.t below)

    -- what solves passes
    pub solves_through : Solves C (length (masked_rows C v D blocks a)) (blocks * block) (sets o 0 (masked_rows C v D blocks a)) q → Through C n v D m q
    solves_through solves i b hi hb s t h =
        let ρ = condition_row C v D blocks (point C i) b s t in
        let is = entry_is C m n small size a loaded i b (omega arith) hb in
        let c : Condition C v D blocks a ρ = record { i = i; b = b; s = s; t = t; position = omega arith; symbol = hb; order = omega arith; is_row = refl } in
        let p = place_of (masked_rows C v D blocks a) ρ [] (member_of C v D blocks a ρ c) in
        (condition_vanishes ρ c).0
        (ap (λ (x : List ℕ). dot (numbers C) (blocks * block) (λ k. get_or x k 0) (λ k. get_or q k 0)) (sym (stands p.0 p.1 ∙ p.2)) ∙ solves p.0 p.1)
