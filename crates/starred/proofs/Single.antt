-- The laws of single symbols: how many entries there are, what each is, and that weights of 4,096 have multiplicities L.
-- Assumes nothing.
use mathlib.Core.Bool.{Bool, true, false, cond}
use mathlib.Core.List.{List, [], ◌∷◌, ◌++◌, map, map-append}
use mathlib.Core.Path.{◌≡◌, refl, sym, ◌∙◌, ap, ap₂}
use Prim.Native.Nat.{ℕ, zero, suc, ◌+◌, ◌*◌, ◌<◌}
use native.Mathlib.Nat.{le_of_suc-le-suc, not-suc-le-zero, mul-zero, mul-suc}
use native.Mathlib.Omega.{arith}
use lib.Dec.{eqb}
use lib.ListN.{length, get_or, length-append, get_or-append}
use lib.Seq.{get_or-append-add}
use Rattle.definitions.proofs.Tools.{length_map_below, map_below_at}
use Rattle.definitions.specs.Field.{Code}
use Rattle.definitions.specs.Limits.{greatest_sum}
use Rattle.definitions.specs.Tools.{below}
use Rattle.definitions.specs.Weights.{entry, multiplicity, matrix}
use Rattle.starred.specs.Single.{single}

module _ (C : Code) (w : ℕ) where
  -- the entries of a position whose symbol is s
  abbrev marked : ℕ → List ℕ
  marked s = map (λ (b : ℕ). cond (eqb b s) w 0) (below C.symbols)

  single_nil : single C w [] ≡ []
  unfolding single
  single_nil = refl

  single_cons : (s : ℕ) (word : List ℕ) → single C w (s ∷ word) ≡ marked s ++ single C w word
  unfolding single
  single_cons s word = refl

  pub length_single : (word : List ℕ) → length (single C w word) ≡ C.symbols * length word
  length_single [] = ap length single_nil ∙ sym (mul-zero C.symbols)
  length_single (s ∷ word) =
      ap length (single_cons s word) ∙ length-append (marked s) (single C w word)
      ∙ ap₂ ◌+◌ (length_map_below (λ (b : ℕ). cond (eqb b s) w 0) C.symbols) (length_single word)
      ∙ (let e = mul-suc C.symbols (length word) in omega arith)

  -- w at its symbol, 0 at every other
  pub single_entry : (word : List ℕ) (i b : ℕ) → i < length word → b < C.symbols → entry C (single C w word) i b ≡ cond (eqb b (get_or word i 0)) w 0
  single_entry [] i b h l = absurd (not-suc-le-zero h)
  single_entry (s ∷ word) zero b h l =
      let size = length_map_below (λ (b : ℕ). cond (eqb b s) w 0) C.symbols in
      let here : C.symbols * 0 + b ≡ b = omega arith in
      ap₂ (λ (m : List ℕ) (j : ℕ). get_or m j 0) (single_cons s word) here ∙ get_or-append (marked s) (single C w word) 0 b (omega arith)
      ∙ map_below_at (λ (b : ℕ). cond (eqb b s) w 0) C.symbols b 0 l
  single_entry (s ∷ word) (suc i) b h l =
      let size = length_map_below (λ (b : ℕ). cond (eqb b s) w 0) C.symbols in
      let e = mul-suc C.symbols i in
      let there : C.symbols * suc i + b ≡ length (marked s) + (C.symbols * i + b) = omega arith in
      ap₂ (λ (m : List ℕ) (j : ℕ). get_or m j 0) (single_cons s word) there ∙ get_or-append-add (marked s) (single C w word) (C.symbols * i + b) 0
      ∙ single_entry word i b (le_of_suc-le-suc h) l

-- a weight of 4,096 has multiplicity L, and one of 0 has 0
marked_multiplicity : (L : ℕ) (t : Bool) → multiplicity L (cond t greatest_sum 0) ≡ cond t L 0
marked_multiplicity L true = omega arith
marked_multiplicity L false = omega arith

-- so the matrix of such weights is single symbols again, and at L = 1 a hard word
pub single_matrix : (C : Code) (L : ℕ) (word : List ℕ) → matrix L (single C greatest_sum word) ≡ single C L word
single_matrix C L [] = ap (matrix L) (single_nil C greatest_sum) ∙ sym (single_nil C L)
single_matrix C L (s ∷ word) =
    ap (matrix L) (single_cons C greatest_sum s word) ∙ map-append (multiplicity L) (marked C greatest_sum s) (single C greatest_sum word)
    ∙ ap₂ ◌++◌ (same (below C.symbols)) (single_matrix C L word) ∙ sym (single_cons C L s word)
  where
    same : (l : List ℕ) → matrix L (map (λ (b : ℕ). cond (eqb b s) greatest_sum 0) l) ≡ map (λ (b : ℕ). cond (eqb b s) L 0) l
    same [] = refl
    same (b ∷ l) = ap₂ ◌∷◌ (marked_multiplicity L (eqb b s)) (same l)
