-- What the coefficients give to each power of y, one coefficient after the other.
-- Assumes nothing.
use mathlib.Core.Bool.{Bool, cond}
use mathlib.Core.List.{List, []}
use mathlib.Core.Path.{◌≡◌, sym, ◌∙◌, ap, ap₂, subst}
use Prim.Native.Nat.{ℕ, ◌+◌, ◌<◌}
use native.Mathlib.Decide.{dec_lt, ℕ_discrete}
use native.Mathlib.Numerals.{add-one}
use native.Mathlib.Omega.{arith}
use borrow.Author.Tests.{eq-eqb, ne_eqb}
use lib.Seq.{get_or-set_same, get_or-set_other}
use lib.ListN.{length, get_or, set, replicate, length-set, length-replicate, get_or-replicate}
use Rattle.algebra.proofs.Elements.{zero_symbol, plus_symbol, times_symbol, plus_none, none_times}
use Rattle.algebra.proofs.Linear.{dot_none, dot_suc}
use Rattle.algebra.specs.FieldOf.{FieldOf}
use Rattle.algebra.specs.Grid.{entry_of}
use Rattle.definitions.proofs.Zeros.{zero_at}
use Rattle.definitions.specs.Code.{Symbols}
use Rattle.definitions.specs.Field.{Code, numbers}
use Rattle.definitions.specs.Limits.{greatest_level, greatest_count}
use Rattle.monomials.specs.Walk.{walked}
use Rattle.passing.proofs.Rows.{each_put, zero_rows}
use Rattle.passing.specs.Derivatives.{SymbolRows, Added, part_of}

module _ (C : Code) (v : ℕ) (px : List (List ℕ)) (q : List ℕ) where
  -- the rows hold what the first j coefficients give
  pub record PartsTo (j : ℕ) (rows : List (List ℕ)) : Type 0 where
    pub size : length rows ≡ greatest_count
    pub wide : (b : ℕ) → b < greatest_count → length (get_or rows b []) ≡ greatest_level
    pub symbols : SymbolRows C rows
    pub each : (b s : ℕ) → b < greatest_count → s < greatest_level → entry_of rows b s ≡ part_of C v px q j b s

module _ (C : Code) (F : FieldOf C) (v : ℕ) (px : List (List ℕ)) (q : List ℕ) (sx : SymbolRows C px) (sq : Symbols C q) where
  abbrev part : ℕ → ℕ → ℕ → ℕ
  part = part_of C v px q

  pub parts_none : PartsTo C v px q 0 (replicate greatest_count (replicate greatest_level 0))
  parts_none =
      let zeros = replicate {A = ℕ} greatest_level 0 in
      record {
        size = length-replicate greatest_count zeros;
        wide = λ b h. ap length (get_or-replicate greatest_count b zeros [] h) ∙ length-replicate {A = ℕ} greatest_level 0;
        symbols = zero_rows C (zero_symbol C F) greatest_count greatest_level;
        each = λ b s h _. ap (λ (x : List ℕ). get_or x s 0) (get_or-replicate greatest_count b zeros [] h) ∙ zero_at greatest_level s ∙ sym (dot_none (numbers C) _ _);
      }

  module _ (j : ℕ) (x y : ℕ) (ex : x ≡ (walked v j).0) (ey : y ≡ (walked v j).1) where
    -- a coefficient gives to its power of y
    part_here : (s : ℕ) → part (j + 1) y s ≡ C.plus (part j y s) (C.times (entry_of px x s) (get_or q j 0))
    part_here s =
        ap (λ (n : ℕ). part n y s) (add-one j) ∙ dot_suc (numbers C) j _ _
        ∙ ap₂ (λ (c : Bool) (e : ℕ). C.plus (part j y s) (C.times (cond c (entry_of px e s) 0) (get_or q j 0))) (eq-eqb (walked v j).1 y (sym ey)) (sym ex)

    -- and to no other
    part_other : (b s : ℕ) → (b ≡ y → ⊥) → part j b s < C.symbols → part (j + 1) b s ≡ part j b s
    part_other b s n symbol =
        ap (λ (n : ℕ). part n b s) (add-one j) ∙ dot_suc (numbers C) j _ _
        ∙ ap (λ (c : Bool). C.plus (part j b s) (C.times (cond c (entry_of px (walked v j).0 s) 0) (get_or q j 0)))
        (ne_eqb (walked v j).1 b (λ e. n (sym e ∙ sym ey)))
        ∙ ap (C.plus (part j b s)) (none_times C F (get_or q j 0) (sq j)) ∙ plus_none C F (part j b s) symbol

    module _ (rows : List (List ℕ)) (row : List ℕ) (low : y < greatest_count) (p : PartsTo C v px q j rows)
        (a : Added C (get_or q j 0) (get_or px x []) (get_or rows y []) row) where
      row_symbols : Symbols C row
      row_symbols s =
          elim (dec_lt s greatest_level) [
            | yes h ↦
                subst (λ (z : ℕ). z < C.symbols) (sym (a.patched.inside s (omega arith) (omega arith)))
                (plus_symbol C F _ _ (p.symbols y s) (times_symbol C F _ _ (sx x s) (sq j)))
            | no h ↦ subst (λ (z : ℕ). z < C.symbols) (sym (a.patched.after s (omega arith))) (p.symbols y s)
          ]

      -- one coefficient more
      pub parts_more : PartsTo C v px q (j + 1) (set rows y row)
      parts_more =
          let inside : y < length rows = (let z = p.size in omega arith) in
          record {
            size = length-set rows y row ∙ p.size;
            wide = λ b h. elim (ℕ_discrete b y) [
              | yes i ↦ ap (λ (k : ℕ). length (get_or (set rows y row) k [])) i ∙ ap length (get_or-set_same rows y row [] inside) ∙ a.size ∙ p.wide y low
              | no i ↦ ap length (get_or-set_other rows y b row [] i) ∙ p.wide b h
            ];
            symbols = each_put rows y row (Symbols C) inside row_symbols p.symbols;
            each = λ b s h l. elim (ℕ_discrete b y) [
              | yes i ↦
                  ap (λ (k : ℕ). entry_of (set rows y row) k s) i ∙ ap (λ (z : List ℕ). get_or z s 0) (get_or-set_same rows y row [] inside)
                  ∙ a.patched.inside s (omega arith) (omega arith)
                  ∙ ap (λ (z : ℕ). C.plus z (C.times (entry_of px x s) (get_or q j 0))) (p.each y s low l) ∙ sym (part_here s) ∙ ap (λ (k : ℕ). part (j + 1) k s) (sym i)
              | no i ↦
                  ap (λ (z : List ℕ). get_or z s 0) (get_or-set_other rows y b row [] i) ∙ p.each b s h l
                  ∙ sym (part_other b s i (subst (λ (z : ℕ). z < C.symbols) (p.each b s h l) (p.symbols b s)))
            ];
          }
