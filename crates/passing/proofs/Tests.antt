-- The tests of a point and of a position are those of the page.
-- Assumes nothing.
use mathlib.Core.Bool.{Bool}
use mathlib.Core.List.{List}
use mathlib.Core.Path.{◌≡◌, refl, sym, ◌∙◌, ap, subst}
use Prim.Native.Nat.{ℕ, ◌+◌, ◌-◌, ◌*◌, ◌/◌, ◌≤◌, ◌<◌}
use native.Mathlib.Nat.{div-le_self, le_refl, mul-suc, mul-le-mul_left}
use native.Mathlib.Omega.{arith}
use lib.Dec.{eqb}
use lib.ListN.{length, get_or, take}
use lib.Seq.{get_or-take}
use Rattle.algebra.proofs.Linear.{dot_equal}
use Rattle.algebra.proofs.Numbers.{point_symbol}
use Rattle.algebra.specs.FieldOf.{FieldOf}
use Rattle.algebra.specs.Grid.{entry_of}
use Rattle.definitions.proofs.Bound.{count_above}
use Rattle.definitions.proofs.Every.{every_same}
use Rattle.definitions.proofs.Loops.{row_within}
use Rattle.definitions.specs.Bound.{count}
use Rattle.definitions.specs.Code.{Symbols, point}
use Rattle.definitions.specs.Field.{Code, numbers}
use Rattle.definitions.specs.Limits.{greatest_level, greatest_count}
use Rattle.definitions.specs.Proposals.{passes_at, passes}
use Rattle.definitions.specs.Tools.{every}
use Rattle.definitions.specs.Weights.{entry}
use Rattle.passing.proofs.Collected.{parts_hasse}
use Rattle.passing.specs.Derivatives.{Low, Powers, Parts, order_passes, derivative_at, point_passes, column_passes, Given}

module _ (C : Code) where
  -- the orders that begin with s, of a point
  abbrev pub order_test : List (List ℕ) → ℕ → ℕ → ℕ → ℕ → Bool
  order_test rows h y m s = every (m - s) (λ t. eqb (derivative_at C rows h y s t) 0)

  -- the rows of y hold the derivatives of its powers
  pub order_agrees : (rows py : List (List ℕ)) (h y m s : ℕ) → Powers C y h py → m ≤ greatest_level
      → order_passes C rows py h s (m - s) ≡ order_test rows h y m s
  order_agrees rows py h y m s p low =
      every_same _ _ (m - s) (λ t l. ap (λ (x : ℕ). eqb x 0)
      (dot_equal (numbers C) h (λ b. entry_of rows b s) (λ b. entry_of rows b s) _ _ (λ b _. refl) (λ b k. p.each b t k (omega arith))))

-- the rows of x hold the derivatives by x of what stands at each power of y
module _ (C : Code) (F : FieldOf C) (v D : ℕ) (pos : 0 < v) (q : List ℕ) (sq : Symbols C q) (wide : D / v + 1 ≤ greatest_count) where
  module _ (i : ℕ) (px rows : List (List ℕ)) (powers : Powers C (point C i) (D + 1) px) (parts : Parts C v (count v D) px q rows) where
    point_agrees : (b m : ℕ) → b < C.symbols → m ≤ greatest_level → point_passes C rows (D / v + 1) b m ≡ passes_at C v D q i b m
    point_agrees b m hb low =
        every_same _ _ m (λ s l. every_same _ _ (m - s) (λ t k. ap (λ (x : ℕ). eqb x 0)
        (parts_hasse C F v D pos q sq (point C i) b (point_symbol C F i) hb s t px rows powers parts wide (omega arith))))

    pub column_agrees : (entries : List ℕ) → Low (C.symbols * i + C.symbols) entries
        → column_passes C rows (D / v + 1) entries (C.symbols * i) ≡ every C.symbols (λ b. passes_at C v D q i b (entry C entries i b))
    column_agrees entries low =
        every_same _ _ C.symbols (λ b l. point_agrees b (get_or entries (C.symbols * i + b) 0) l (low (C.symbols * i + b) (omega arith)))

-- what is asked of each position, of a matrix and a polynomial within limits
module _ (C : Code) {n v D : ℕ} {entries q : List ℕ} (given : Given C n v D entries q) where
  -- the degree limit is below the number of coefficients
  pub degree_low : D + 1 ≤ greatest_count
  degree_low = let few = given.few in let above = count_above v given.positive D in omega arith

  -- and so are the powers of y
  pub powers_low : D / v + 1 ≤ greatest_count
  powers_low = let low = degree_low in let q = div-le_self D v in omega arith

  module _ (i : ℕ) (h : i < n) where
    -- the entries of a position are among those of n positions
    pub column_within : C.symbols * i + C.symbols ≤ length entries
    column_within = row_within C.symbols i n (length entries) h given.whole

    -- so none of them is above the greatest level
    pub column_low : Low (C.symbols * i + C.symbols) entries
    column_low j l = let among = row_within C.symbols i n (C.symbols * n) h (le_refl (C.symbols * n)) in given.low j (omega arith)

    -- what the rows of its x answer is whether the position passes
    pub position_agrees : (F : FieldOf C) {x size : ℕ} {px rows : List (List ℕ)} {answer : Bool} → x ≡ point C i → size ≡ C.symbols → Powers C x (D + 1) px
        → Parts C v (length q) px q rows → answer ≡ column_passes C rows (D / v + 1) entries (size * i)
        → answer ≡ every C.symbols (λ b. passes_at C v D q i b (entry C entries i b))
    position_agrees F {px = px} {rows = rows} ex es powers parts e =
        e ∙ ap (λ (z : ℕ). column_passes C rows (D / v + 1) entries (z * i)) es
        ∙ column_agrees C F v D given.positive q given.coefficients powers_low i px rows
        (subst (λ (c : ℕ). Powers C c (D + 1) px) ex powers) (subst (λ (k : ℕ). Parts C v k px q rows) given.full parts) entries column_low

-- a polynomial passes through the points of the first n positions, whatever stands behind them
pub passes_front : (C : Code) (n v D : ℕ) (entries q : List ℕ) → passes C n v D entries q ≡ passes C n v D (take (C.symbols * n) entries) q
passes_front C n v D entries q =
    every_same _ _ n (λ i hi. every_same _ _ C.symbols (λ b hb. ap (passes_at C v D q i b)
    (sym (get_or-take (C.symbols * n) entries (C.symbols * i + b) 0
    (let more = mul-suc C.symbols i in let grows = mul-le-mul_left C.symbols hi in omega arith)))))
