-- What back substitution makes of the reduced rows is the polynomial that interpolates.
-- Assumes nothing.
use mathlib.Core.Bool.{true, true≢false}
use mathlib.Core.List.{List, ◌++◌}
use mathlib.Core.Logic.{◌≢◌}
use mathlib.Core.Path.{◌≡◌, sym, ◌∙◌, ap, subst}
use Prim.Native.Nat.{ℕ, suc, ◌*◌, ◌≤◌, ◌<◌}
use native.Mathlib.Decide.{dec_lt}
use native.Mathlib.Omega.{arith}
use lib.ListN.{length, take, drop, get_or, set, length-set}
use lib.Seq.{sets, length-sets, get_or-set_other}
use Rattle.algebra.specs.FieldOf.{FieldOf}
use Rattle.conditions.specs.MaskedRows.{masked_rows}
use Rattle.definitions.proofs.Bound.{bound_le, bound_is_least}
use Rattle.definitions.proofs.Powers.{coefficients_fit}
use Rattle.definitions.proofs.Zeros.{is_zero_of_zeros, is_zero_false}
use Rattle.definitions.specs.Bound.{count, bound}
use Rattle.definitions.specs.Code.{Symbols}
use Rattle.definitions.specs.Field.{Code}
use Rattle.definitions.specs.Limits.{greatest_limit, coefficient_room}
use Rattle.definitions.specs.Polynomial.{Interpolates, Through, is_zero, leading}
use Rattle.pivots.specs.System.{System, Within, Eliminated}
use Rattle.linear.proofs.Back.{coefficients_size, coefficients_back, coefficients_one, coefficients_end, coefficients_written}
use Rattle.linear.proofs.Leading.{zero_after, leading_is}
use Rattle.linear.proofs.Symbols.{back_symbols, triangle_solves, triangle_least}
use Rattle.linear.specs.Rows.{Solves, Reduced, Solved, Led}
use Rattle.polynomial.proofs.Conditions.{length_conditions, conditions_symbols, conditions_wide, through_solves, solves_through}
use Rattle.polynomial.specs.Found.{Given, Found}
use Rattle.blocks.specs.Row.{width, block, blocks_for}
use Rattle.matrix.specs.Columns.{matrix_of, matrix_cost}

-- ---- the leading coefficient

-- what stays behind the 1 and the zeros stood there before the 1
pub led_whole : (j n : ℕ) (out now : List ℕ) → j < n → Led j n (set out j 1) now → Led j n out now
led_whole j n out now low l = record {
  size = l.size ∙ length-set out j 1;
  one = l.one;
  zeros = l.zeros;
  kept = λ k g. l.kept k g ∙ get_or-set_other out j k 1 0 (λ e. omega arith);
}

-- ---- what is given is within the limits of the functions

-- the room holds the coefficients
pub count_small : (v D w price : ℕ) → 0 < v → price ≤ greatest_limit → D ≡ bound v price → w ≡ count v D → w ≤ coefficient_room
count_small v D w price pos cheap is_bound is_count =
    let f = subst (λ (d : ℕ). count v d ≤ coefficient_room) (sym is_bound) (coefficients_fit v pos price cheap) in omega arith

module _ (C : Code) (a : List (List ℕ)) (v D w cost : ℕ) (out : List ℕ) (g : Given C a v D w cost out) where
  -- the powers of x fit into a row
  pub degree_small : D < width
  degree_small = let b = bound_le v g.weighted (matrix_cost C a) in let e = g.bounded in let p = g.priced in let c = g.cheap in omega arith

  -- so do the blocks
  pub blocks_fit : blocks_for cost * block ≤ width
  blocks_fit = let c = g.cheap in omega arith

  -- there are as many rows as the matrix costs
  pub rows_priced : length (masked_rows C v D (blocks_for cost) a) ≡ cost
  rows_priced = length_conditions C v D (blocks_for cost) a ∙ sym g.priced

  -- and more monomials
  pub more : cost < w
  more =
      let f : matrix_cost C a < count v D = subst (λ (d : ℕ). matrix_cost C a < count v d) (sym g.bounded) (bound_is_least v g.weighted (matrix_cost C a)).0 in
      let e = g.counted in let p = g.priced in omega arith

  module _ (o start : List (List ℕ)) (room : cost ≤ length o) (is_start : start ≡ sets o 0 (masked_rows C v D (blocks_for cost) a)) where
    -- the blocks of the conditions are within the system that holds them
    pub start_within : (rows : ℕ) → rows ≡ length (masked_rows C v D (blocks_for cost) a) → Within rows (blocks_for cost) start
    start_within rows e =
        let p = rows_priced in let c = g.cheap in
        let n = ap length is_start ∙ length-sets o 0 (masked_rows C v D (blocks_for cost) a) in
        record { there = omega arith; few = omega arith; fewer = omega arith; inside = omega arith }

    -- the conditions are a system
    pub start_system : FieldOf C → C.symbols ≤ 256 → System C o → System C start
    start_system F bytes so =
        let there : length (masked_rows C v D (blocks_for cost) a) ≤ length o = (let p = rows_priced in omega arith) in
        subst (System C) (sym is_start) (record {
          wide = λ t h. conditions_wide C v D (blocks_for cost) a o there t blocks_fit
              (so.wide t (let e = length-sets o 0 (masked_rows C v D (blocks_for cost) a) in omega arith));
          symbols = λ r. conditions_symbols C v D (blocks_for cost) a o there r F bytes (so.symbols r);
        })

-- ---- the coefficients

module _ (C : Code) (F : FieldOf C) (bytes : C.symbols ≤ 256) (nonzero : C.α ≢ 0) (a : List (List ℕ)) (v D cost : ℕ) (out : List ℕ)
    (g : Given C a v D (count v D) cost out) (o start b : List (List ℕ)) (so : System C o) (room : cost ≤ length o)
    (is_start : start ≡ sets o 0 (masked_rows C v D (blocks_for cost) a)) (rows j : ℕ) (is_rows : rows ≡ length (masked_rows C v D (blocks_for cost) a)) (low : j ≤ rows)
    (e : Eliminated C rows (blocks_for cost * block) j start b) (reduced : Reduced rows j b) (led after : List ℕ) (l : Led j (count v D) out led)
    (s : Solved C j 0 b led after) where
  -- those that are written
  q : List ℕ
  q = take (count v D) after

  -- j is one of their places
  place : j < count v D
  place = let m = more C a v D (count v D) cost out g in let p = rows_priced C a v D (count v D) cost out g in omega arith

  -- and one of the columns
  column : j < blocks_for cost * block
  column = let w = (start_within C a v D (count v D) cost out g o start room is_start rows is_rows).fewer in omega arith

  -- they are N(D)
  size : length q ≡ count v D
  unfolding q
  size = coefficients_size C j b (count v D) out led after place g.room l s

  -- the one at j is 1
  one : get_or q j 0 ≡ 1
  unfolding q
  one = coefficients_one C j b (count v D) out led after place g.room l s

  -- those after it are zero
  ends : (k : ℕ) → j < k → get_or q k 0 ≡ 0
  unfolding q
  ends = coefficients_end C j b (count v D) out led after place g.room l s

  -- all are symbols
  symbols : Symbols C q
  unfolding q
  symbols =
      back_symbols C F b j e.system.symbols q (coefficients_back C j b (count v D) out led after place g.room l s) one ends

  -- the one at j is not zero
  nonzero_at : get_or q j 0 ≢ 0
  nonzero_at z = let f = one in let y : ⊥ = omega arith in y

  -- so it leads
  leads_at : leading q ≡ j
  leads_at = leading_is q j nonzero_at ends

  -- they solve the conditions
  solves : Solves C rows (blocks_for cost * block) start q
  unfolding q
  solves =
      (e.same q symbols).1
      (triangle_solves C F rows (blocks_for cost * block) b j e.system.symbols column low reduced q symbols
      (coefficients_back C j b (count v D) out led after place g.room l s) one (λ k h _. ends k h))

  module _ (m : List ℕ) (n : ℕ) (small : n ≤ C.positions) (full : length m ≡ C.symbols * n) (loaded : a ≡ matrix_of C m n) where
    -- the conditions are there
    there : length (masked_rows C v D (blocks_for cost) a) ≤ length o
    there = let p = rows_priced C a v D (count v D) cost out g in omega arith

    -- they pass
    passes : Through C n v D m q
    passes =
        solves_through C F bytes nonzero m n v D (blocks_for cost) small full g.weighted (blocks_fit C a v D (count v D) cost out g) a loaded q symbols
        (suc j) column place ends o there
        (subst (λ (x : List (List ℕ)). Solves C (length (masked_rows C v D (blocks_for cost) a)) (blocks_for cost * block) x q) is_start
        (subst (λ (r : ℕ). Solves C r (blocks_for cost * block) start q) is_rows solves))

    -- what passes and ends earlier is zero
    none_earlier : (p : List ℕ) → Symbols C p → Through C n v D m p → leading p < j → is_zero p ≡ true
    none_earlier p sp through h =
        is_zero_of_zeros p
        (λ k. elim (dec_lt k (blocks_for cost * block)) [
          | yes i ↦
              triangle_least C F rows (blocks_for cost * block) b j e.system.symbols column low reduced p sp
              ((e.same p sp).0
              (subst (λ (r : ℕ). Solves C r (blocks_for cost * block) start p) (sym is_rows)
              (subst (λ (x : List (List ℕ)). Solves C (length (masked_rows C v D (blocks_for cost) a)) (blocks_for cost * block) x p) (sym is_start)
              (through_solves C F bytes nonzero m n v D (blocks_for cost) small full g.weighted (blocks_fit C a v D (count v D) cost out g) a loaded p sp
              j (let c = column in omega arith) (let c = place in omega arith) (λ i low. zero_after p i (omega arith)) o there through))))
              (λ i low _. zero_after p i (omega arith)) k i
          | no i ↦ zero_after p k (let c = column in omega arith)
        ])

    -- they interpolate
    interpolates : Interpolates C n v D m q
    interpolates = record {
      size = size;
      symbols = symbols;
      through = passes;
      nonzero = is_zero_false q j nonzero_at;
      leads = ap (λ (k : ℕ). get_or q k 0) leads_at ∙ one;
      least = λ p e sp through n. elim (dec_lt (leading p) j) [
        | yes h ↦ absurd (true≢false (sym (none_earlier p sp through h) ∙ n))
        | no l ↦ let f = leads_at in omega arith
      ];
    }

  -- so the polynomial is found
  found : Found C a v D out j after
  unfolding q
  found = record {
    coefficients = q;
    interpolates = interpolates;
    size = size;
    leads = sym leads_at;
    written = coefficients_written C j b (count v D) out led after place g.room l s ∙ ap (λ (n : ℕ). q ++ drop n out) (sym size);
  }

-- the function's answer
pub polynomial_found : (C : Code) (F : FieldOf C) → C.symbols ≤ 256 → C.α ≢ 0 → (a : List (List ℕ)) (v D w cost : ℕ) (out : List ℕ) → Given C a v D w cost out
    → (o start b : List (List ℕ)) → System C o → cost ≤ length o → start ≡ sets o 0 (masked_rows C v D (blocks_for cost) a) → (rows j : ℕ)
    → rows ≡ length (masked_rows C v D (blocks_for cost) a) → j ≤ rows → Eliminated C rows (blocks_for cost * block) j start b → Reduced rows j b
    → (led after : List ℕ) → Led j w out led → Solved C j 0 b led after → Found C a v D out j after
polynomial_found C F bytes nonzero a v D w cost out g o start b so room is_start rows j is_rows low e reduced led after =
    subst (λ (n : ℕ). Given C a v D n cost out → Led j n out led → Solved C j 0 b led after → Found C a v D out j after)
    (sym g.counted) found_for g
  where
    found_for : Given C a v D (count v D) cost out → Led j (count v D) out led → Solved C j 0 b led after → Found C a v D out j after
    found_for g = found C F bytes nonzero a v D cost out g o start b so room is_start rows j is_rows low e reduced led after
