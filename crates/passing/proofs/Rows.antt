-- Rows of derivatives, one row for each power: Pascal's rule leads from a row to the next; and rows of zeros.
-- Assumes nothing.
use mathlib.Core.List.{List, [], ◌∷◌}
use mathlib.Core.Path.{◌≡◌, refl, sym, ◌∙◌, ap, ap₂, subst}
use Prim.Native.Nat.{ℕ, zero, suc, ◌+◌, ◌<◌}
use native.Mathlib.Decide.{dec_lt, ℕ_discrete}
use native.Mathlib.Numerals.{add-one}
use native.Mathlib.Omega.{arith}
use lib.ListN.{length, get_or, set, replicate, length-set, length-replicate, get_or-replicate, get_or-eq_default}
use lib.Seq.{get_or-set_same, get_or-set_other}
use Rattle.algebra.proofs.Binomials.{derivative_zero_zero, derivative_zero_suc, derivative_suc_zero, derivative_suc_suc}
use Rattle.algebra.proofs.Elements.{zero_symbol, times_symbol, plus_none}
use Rattle.algebra.specs.FieldOf.{FieldOf}
use Rattle.algebra.specs.Grid.{entry_of}
use Rattle.definitions.proofs.Zeros.{zero_at}
use Rattle.definitions.specs.Code.{Symbols}
use Rattle.definitions.specs.Field.{Ops, Code, numbers}
use Rattle.definitions.specs.Limits.{greatest_level, greatest_count}
use Rattle.definitions.specs.Polynomial.{derivative}
use Rattle.passing.proofs.Collected.{number_derivative, derivative_symbol}
use Rattle.passing.specs.Derivatives.{SymbolRows, Moved}

-- a row is put in place of another
module _ (rows : List (List ℕ)) (e : ℕ) (row : List ℕ) where
  -- what holds of the row and of every one before holds of every one
  pub each_put : (P : List ℕ → Type 0) → e < length rows → P row → ((k : ℕ) → P (get_or rows k [])) → (k : ℕ) → P (get_or (set rows e row) k [])
  each_put P h p all k =
      elim (ℕ_discrete k e) [
        | yes i ↦ subst P (sym (ap (λ (j : ℕ). get_or (set rows e row) j []) i ∙ get_or-set_same rows e row [] h)) p
        | no i ↦ subst P (sym (get_or-set_other rows e k row [] i)) (all k)
      ]

module _ (C : Code) (some : 0 < C.symbols) where
  zeros_symbols : (m : ℕ) → Symbols C (replicate m 0)
  zeros_symbols m s = subst (λ (x : ℕ). x < C.symbols) (sym (zero_at m s)) some

  -- rows of zeros are rows of symbols
  pub zero_rows : (n m : ℕ) → SymbolRows C (replicate n (replicate m 0))
  zero_rows n m e =
      elim (dec_lt e n) [
        | yes h ↦ subst (Symbols C) (sym (get_or-replicate n e (replicate m 0) [] h)) (zeros_symbols m)
        | no h ↦ subst (Symbols C) (sym (get_or-eq_default (replicate n (replicate m 0)) [] (omega (arith, length-replicate n (replicate {A = ℕ} m 0))))) (λ s. some)
      ]

module _ (C : Code) where
  -- a row holds the derivatives of the power e at c
  pub record RowOf (c e : ℕ) (row : List ℕ) : Type 0 where
    pub size : length row ≡ greatest_level
    pub each : (s : ℕ) → s < greatest_level → get_or row s 0 ≡ derivative (numbers C) e s c

  -- the rows of the first e powers are filled in
  pub record PowersTo (c e : ℕ) (rows : List (List ℕ)) : Type 0 where
    pub size : length rows ≡ greatest_count
    pub symbols : SymbolRows C rows
    pub each : (k s : ℕ) → k < e → s < greatest_level → entry_of rows k s ≡ derivative (numbers C) k s c

module _ (C : Code) (F : FieldOf C) where
  abbrev G : Ops
  G = F.ring.ops

  abbrev N : Ops
  N = numbers C

  abbrev φ : G.K → ℕ
  φ = F.number.φ

  module _ (c : ℕ) (h : c < C.symbols) where
    -- Pascal's rule, in numbers
    next_first : (e : ℕ) → derivative N (suc e) zero c ≡ C.times c (derivative N e zero c)
    next_first e =
        sym (number_derivative C F (suc e) zero c h) ∙ ap φ (derivative_suc_zero F.ring e (F.element c))
        ∙ F.number.φ_mul (F.element c) (derivative G e zero (F.element c)) ∙ ap₂ C.times (F.number_element c h) (number_derivative C F e zero c h)

    next_later : (e s : ℕ) → derivative N (suc e) (suc s) c ≡ C.plus (C.times c (derivative N e (suc s) c)) (derivative N e s c)
    next_later e s =
        sym (number_derivative C F (suc e) (suc s) c h) ∙ ap φ (derivative_suc_suc F.ring e s (F.element c))
        ∙ F.number.φ_add (G.mul (F.element c) (derivative G e (suc s) (F.element c))) (derivative G e s (F.element c))
        ∙ ap₂ C.plus
        (F.number.φ_mul (F.element c) (derivative G e (suc s) (F.element c)) ∙ ap₂ C.times (F.number_element c h) (number_derivative C F e (suc s) c h))
        (number_derivative C F e s c h)

    pub row_symbols : (e : ℕ) (row : List ℕ) → RowOf C c e row → Symbols C row
    row_symbols e row r s =
        elim (dec_lt s greatest_level) [
          | yes l ↦ subst (λ (x : ℕ). x < C.symbols) (sym (r.each s l)) (derivative_symbol C F e s c h)
          | no l ↦ subst (λ (x : ℕ). x < C.symbols) (sym (get_or-eq_default row 0 (let z = r.size in omega arith))) (zero_symbol C F)
        ]

    -- the power 0 is 1, and has no other derivative
    first_at : (s : ℕ) → get_or (1 ∷ replicate 4 0) s 0 ≡ derivative N 0 s c
    first_at zero = sym (sym (number_derivative C F 0 zero c h) ∙ ap φ (derivative_zero_zero F.ring (F.element c)) ∙ F.number.φ_one)
    first_at (suc s) =
        zero_at 4 s
        ∙ sym (sym (number_derivative C F 0 (suc s) c h) ∙ ap φ (derivative_zero_suc F.ring s (F.element c)) ∙ F.number.φ_zero)

    pub row_first : RowOf C c 0 (set (replicate greatest_level 0) 0 1)
    row_first = record { size = refl; each = λ s l. first_at s }

    -- the next row is the row moved
    pub row_moved : (e : ℕ) (row next : List ℕ) → RowOf C c e row → Moved C c row next → RowOf C c (e + 1) next
    row_moved e row next r m = record {
      size = m.size;
      each = λ s l. m.each s l ∙ at s l ∙ ap (λ (n : ℕ). derivative N n s c) (sym (add-one e));
    }
      where
        at : (s : ℕ) → s < greatest_level → C.plus (C.times c (get_or row s 0)) (get_or (0 ∷ row) s 0) ≡ derivative N (suc e) s c
        at zero l =
            plus_none C F (C.times c (get_or row zero 0)) (times_symbol C F c (get_or row zero 0) h (row_symbols e row r zero))
            ∙ ap (C.times c) (r.each zero l) ∙ sym (next_first e)
        at (suc s) l =
            ap₂ (λ (x y : ℕ). C.plus (C.times c x) y) (r.each (suc s) l) (r.each s (omega arith)) ∙ sym (next_later e s)

    pub powers_none : PowersTo C c 0 (replicate greatest_count (replicate greatest_level 0))
    powers_none = record {
      size = length-replicate greatest_count (replicate {A = ℕ} greatest_level 0);
      symbols = zero_rows C (zero_symbol C F) greatest_count greatest_level;
      each = λ k s l _. (let z : ⊥ = omega arith in absurd z);
    }

    pub powers_more : (e : ℕ) (rows : List (List ℕ)) (row : List ℕ) → e < greatest_count → PowersTo C c e rows → RowOf C c e row → PowersTo C c (e + 1) (set rows e row)
    powers_more e rows row low p r =
        let inside : e < length rows = (let z = p.size in omega arith) in
        record {
          size = length-set rows e row ∙ p.size;
          symbols = each_put rows e row (Symbols C) inside (row_symbols e row r) p.symbols;
          each = λ k s l f. elim (ℕ_discrete k e) [
            | yes i ↦
                ap (λ (j : ℕ). entry_of (set rows e row) j s) i ∙ ap (λ (x : List ℕ). get_or x s 0) (get_or-set_same rows e row [] inside) ∙ r.each s f
                ∙ ap (λ (j : ℕ). derivative N j s c) (sym i)
            | no i ↦ ap (λ (x : List ℕ). get_or x s 0) (get_or-set_other rows e k row [] i) ∙ p.each k s (omega arith) f
          ];
        }
