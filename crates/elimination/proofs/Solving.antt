-- The loops of back substitution.
-- Assumes nothing.
use mathlib.Core.List.{List}
use mathlib.Core.Path.{◌≡◌, sym, ◌∙◌, ap, ap₂, subst}
use Prim.Native.Nat.{ℕ, suc, ◌+◌, ◌-◌, ◌≤◌, ◌<◌}
use native.Mathlib.Decide.{ℕ_discrete}
use native.Mathlib.Numerals.{add-one}
use native.Mathlib.Omega.{arith}
use lib.ListN.{length, get_or, set}
use lib.Seq.{get_or-set_same, get_or-set_other}
use Rattle.algebra.specs.FieldOf.{FieldOf}
use Rattle.algebra.specs.Grid.{entry_of}
use Rattle.definitions.specs.Field.{Code, numbers}
use Rattle.linear.proofs.Back.{solved_more}
use Rattle.linear.proofs.Symbols.{behind_symbol}
use Rattle.linear.proofs.Triangle.{behind_none, behind_more}
use Rattle.linear.specs.Rows.{SymbolRows, behind, Solved}
use Rattle.elimination.specs.Solving.{SymbolsBetween}

module _ (C : Code) where
  -- nothing is added yet
  pub back_none : (y s : ℕ) (r q : ℕ → ℕ) → y ≡ behind (numbers C) y s (s + 1) r q
  back_none y s r q = sym (behind_none (numbers C) y s (s + 1) r q (omega arith))

  -- one entry more
  pub back_more : (y s i now x : ℕ) (r q : ℕ → ℕ) → s < i → now ≡ behind (numbers C) y s i r q → x ≡ C.times (r i) (q i)
      → C.plus now x ≡ behind (numbers C) y s (i + 1) r q
  back_more y s i now x r q h e f =
      ap₂ C.plus e f ∙ sym (behind_more (numbers C) y s i r q h) ∙ ap (λ (n : ℕ). behind (numbers C) y s n r q) (sym (add-one i))

-- one symbol more
between_symbols : (C : Code) → FieldOf C → (m : List (List ℕ)) → SymbolRows C m → (s j y : ℕ) (q : List ℕ) → s < length q → SymbolsBetween C s j q
    → y ≡ behind (numbers C) (entry_of m s j) s j (entry_of m s) (λ i. get_or q i 0) → (k : ℕ) → s ≤ k → k < j → get_or (set q s y) k 0 < C.symbols
between_symbols C F m sm s j y q h sq e k l g =
    elim (ℕ_discrete k s) [
      | yes d ↦
          subst (λ (x : ℕ). x < C.symbols) (sym (ap (λ (i : ℕ). get_or (set q s y) i 0) d ∙ get_or-set_same q s y 0 h ∙ e))
          (behind_symbol C F (entry_of m s j) s j (entry_of m s) (λ i. get_or q i 0) (sm s j) (sm s) sq)
      | no n ↦ subst (λ (x : ℕ). x < C.symbols) (sym (get_or-set_other q s k y 0 n)) (sq k (omega arith) g)
    ]

-- the entries from s on and before j are symbols
abbrev pub SymbolsFrom : Code → ℕ → ℕ → List ℕ → Type 0
SymbolsFrom C s j q = (k : ℕ) → s ≤ k → k < j → get_or q k 0 < C.symbols

-- one more is found, behind which all are
pub solve_more : (C : Code) → FieldOf C → (j s y : ℕ) (m : List (List ℕ)) (old now : List ℕ) → SymbolRows C m → 0 < s → s ≤ j → j ≤ length old
    → Solved C j s m old now → SymbolsFrom C s j now
    → y ≡ behind (numbers C) (entry_of m (s - 1) j) (s - 1) j (entry_of m (s - 1)) (λ i. get_or now i 0)
    → Solved C j (s - 1) m old (set now (s - 1) y) × SymbolsFrom C (s - 1) j (set now (s - 1) y)
solve_more C F j s y m old now sm pos low room d sq e =
    let next : s ≡ suc (s - 1) = omega arith in
    let size = d.size in (
      solved_more C j m (s - 1) y old now (omega arith) room (subst (λ (n : ℕ). Solved C j n m old now) next d) e,
      between_symbols C F m sm (s - 1) j y now (omega arith) (λ k l h. sq k (omega arith) h) e,
    )
