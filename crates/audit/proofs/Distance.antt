-- Half the distance: where 2 marks for each that is read wrong, and one for each that is erased, are no more than n - k, the bound is below the
-- score of the true message, and every other message scores at least L less.
-- Assumes nothing.
use mathlib.Core.List.Memᴰ
use mathlib.Core.List.{List, [], ◌∷◌, Memᴰ}
use mathlib.Core.Logic.{◌≢◌, ⊎_elim}
use mathlib.Core.Path.{◌≡◌, refl, sym, ◌∙◌, ap}
use Prim.Native.Nat.{ℕ, zero, suc, ◌+◌, ◌-◌, ◌*◌, ◌/◌, ◌≤◌, ◌<◌}
use native.Mathlib.Decide.{dec_lt}
use native.Mathlib.Nat.{add-mul, mul_assoc, mul_left_comm, suc-mul, mul-le-mul, mul-le-mul_left, mul-le-mul_right, lt-mul-div-succ}
use native.Mathlib.Omega.{arith}
use lib.ListN.{length}
use Rattle.algebra.proofs.Elements.{zero_symbol}
use Rattle.algebra.specs.FieldOf.{FieldOf}
use Rattle.audit.proofs.Agreement.{agree_at_most}
use Rattle.audit.proofs.Marks.{twice_entry_cost, read, read_and_erased, marks_counted, shared_marks, cost_of_marks, score_of_marks, codeword_symbol}
use Rattle.audit.specs.Desk.{Sizes, First}
use Rattle.audit.specs.Marks.{matrix_of, erased, wrong}
use Rattle.audit.specs.Words.{Message, agreeing}
use Rattle.definitions.proofs.Above.{Precedes, AllAbove, precedes_apart, above_in_order}
use Rattle.definitions.proofs.Bound.{bound_at_most}
use Rattle.definitions.proofs.Ordered.{Ordered}
use Rattle.definitions.proofs.Sums.{sum_append, sum_tail, next_product}
use Rattle.definitions.proofs.Tools.{sum_one, sum_suc}
use Rattle.definitions.specs.Bound.{count, bound}
use Rattle.definitions.specs.Code.{codeword}
use Rattle.definitions.specs.Field.{Code}
use Rattle.definitions.specs.Listing.{list_of}
use Rattle.definitions.specs.Tools.{sum}
use Rattle.definitions.specs.Weights.{entry_cost, cost, score}

-- ---- the bound

module _ (v : ℕ) where
  -- X + (X - v) + .. + (X - v j), where what would be below zero is zero, is at least (j + 1) X - v j (j + 1) / 2
  falling_at_least : (X j : ℕ) → 2 * (suc j * X) ≤ 2 * sum (suc j) (λ (b : ℕ). X - v * b) + v * (suc j * j)
  falling_at_least X zero = rw (sum_one (λ (b : ℕ). X - v * b)) (omega arith)
  falling_at_least X (suc j) =
      let r = falling_at_least X j in
      let s = sum_suc (suc j) (λ (b : ℕ). X - v * b) in
      let a = suc-mul (suc j) X in
      let p = next_product v j in
      omega arith

module _ (v : ℕ) (pos : 1 ≤ v) where
  -- and N(D) has all of these that are above zero
  powers_counted : (D j : ℕ) → sum (suc j) (λ (b : ℕ). D + 1 - v * b) ≤ count v D
  powers_counted D j =
      elim (dec_lt (D / v) j) [
        | yes l ↦
            let end = lt-mul-div-succ D pos in
            let tail = sum_tail (D / v + 1) (suc j) (λ (b : ℕ). D + 1 - v * b) (omega arith)
            (λ b h. let more : v * (D / v + 1) ≤ v * b = mul-le-mul_left v h in omega arith) in
            omega arith
        | no g ↦
            let e : D / v + 1 ≡ suc j + (D / v - j) = omega arith in
            let more = sum_append (suc j) (D / v - j) (λ (b : ℕ). D + 1 - v * b) in
            rw e (omega arith)
      ]

  -- N(D) is at least (j + 1) (D + 1) - v j (j + 1) / 2, for every j
  pub count_at_least : (D j : ℕ) → 2 * (suc j * (D + 1)) ≤ 2 * count v D + v * (suc j * j)
  count_at_least D j = let a = falling_at_least v (D + 1) j in let b = powers_counted D j in omega arith

  -- r marks of multiplicity L each: the bound is below the score of a of them, where 2 a is more than r + v
  pub bound_below : (r a L : ℕ) → 1 ≤ L → r + v < 2 * a → bound v (r * entry_cost L) < a * L
  bound_below r a L level many =
      let P : ℕ = suc L * L in
      let D : ℕ = a * L - 1 in
      let some : 1 * 1 ≤ a * L = mul-le-mul {n₁ = 1} {m₁ = 1} {n₂ = a} {m₂ = L} (omega arith) level in
      let two : 2 * 1 ≤ suc L * L = mul-le-mul {n₁ = 2} {m₁ = 1} {n₂ = suc L} {m₂ = L} (omega arith) level in
      let whole : D + 1 ≡ a * L = omega arith in
      let at : suc L * (D + 1) ≡ suc L * (a * L) = ap (λ (x : ℕ). suc L * x) whole in
      let high = count_at_least D L in
      let turn = mul_left_comm (suc L) a L in
      let twice : r * (2 * entry_cost L) ≡ r * P = ap (λ (x : ℕ). r * x) (twice_entry_cost L) in
      let out = mul_left_comm r 2 (entry_cost L) in
      let more : (r + v + 1) * P ≤ (2 * a) * P = mul-le-mul_right P (omega arith) in
      let one = add-mul (r + v) 1 P in
      let both = add-mul r v P in
      let double = mul_assoc 2 a P in
      let low = bound_at_most v pos (r * entry_cost L) D (omega arith) in
      omega arith

-- ---- the list

module _ (C : Code) (F : FieldOf C) (n k L : ℕ) (f word : List ℕ) (sizes : Sizes C n k) (level : 1 ≤ L)
    (mf : Message C k f) (size : length word ≡ n) (few : 2 * wrong C n word (codeword C n f) + erased C n word ≤ n - k) where
  abbrev m : List ℕ
  m = matrix_of C L word

  abbrev t : ℕ
  t = bound (k - 1) (cost m)

  -- the true message is supported more strongly than the bound
  pub true_above : t < score C n m f
  true_above =
      let all = marks_counted C n word (codeword C n f) (codeword_symbol C F n k f mf) in
      let rest = read_and_erased C n word in
      let s = sizes in
      rw (cost_of_marks C n L word size, score_of_marks C n L word size F k f mf)
      (bound_below (k - 1) (omega arith) (read C n word) (agreeing n (codeword C n f) word) L level (omega arith))

  -- every other scores at least L less
  pub others_below : (g : List ℕ) → Message C k g → g ≢ f → score C n m g + L ≤ score C n m f
  others_below g mg other =
      let all = marks_counted C n word (codeword C n f) (codeword_symbol C F n k f mf) in
      let common = shared_marks C n word (codeword C n f) (codeword C n g) (codeword_symbol C F n k g mg) in
      let agree = agree_at_most C F n k g f sizes.2 mg mf other in
      let s = sizes in
      let b = agreeing n (codeword C n g) word in
      let one = add-mul b 1 L in
      let less : (b + 1) * L ≤ agreeing n (codeword C n f) word * L = mul-le-mul_right L (omega arith) in
      rw (score_of_marks C n L word size F k g mg, score_of_marks C n L word size F k f mf) (omega arith)

  list : AllAbove C n k m t
  list = above_in_order C (zero_symbol C F) n k m t

  -- so it stands first
  first_of : (l : List (List ℕ)) → Ordered (Precedes (score C n m)) l → ((g : List ℕ) → Memᴰ g l → Message C k g) → Memᴰ f l
      → (rest : List (List ℕ)) × (l ≡ f ∷ rest) × ((g : List ℕ) → Memᴰ g rest → score C n m g + L ≤ score C n m f)
  first_of [] o messages here = absurd (Memᴰ.not-nil here)
  first_of (x ∷ l) o messages here = ⊎_elim
      (λ e. (l, ap (λ (y : List ℕ). y ∷ l) (sym e), λ g h. others_below g (messages g (Memᴰ.tail h)) (λ same. precedes_apart (score C n m) x g (o.0 g h) (sym (same ∙ e)))))
      (λ h. let low = others_below x (messages x (Memᴰ.head refl)) (precedes_apart (score C n m) x f (o.0 f h)) in let high = (o.0 f h).0 in let z : ⊥ = omega arith in absurd z)
      (Memᴰ.cases_cons here)

  pub stands_first : First C n k L f word
  stands_first =
      let first = first_of (list_of C n k m) list.ordered (λ g h. (list.sized g h, list.symbols g h)) (list.each f mf.0 mf.1 true_above) in
      record { rest = first.0; first = first.1; leads = first.2 }
