-- How many messages can have a score above D, without any polynomial: each of them takes its score off the cost, but for what those before it
-- took at the same places, and two codewords share at most v places. So where N(D) is more than the cost there are at most D/v.
-- Assumes nothing.
use mathlib.Core.Bool.{cond}
use mathlib.Core.List.{List, [], ◌∷◌, Memᴰ}
use mathlib.Core.Logic.{◌≢◌}
use mathlib.Core.Path.{◌≡◌, refl, sym, ◌∙◌, ap}
use Prim.Native.Nat.{ℕ, zero, suc, ◌+◌, ◌-◌, ◌*◌, ◌/◌, ◌≤◌, ◌<◌}
use native.Mathlib.Decide.{dec_lt, ℕ_discrete}
use native.Mathlib.Nat.{add-zero, mul-suc}
use native.Mathlib.Omega.{arith}
use borrow.Author.Tests.{eq-eqb, ne_eqb}
use lib.Dec.{eqb}
use lib.ListN.{length, get_or}
use Rattle.algebra.proofs.Elements.{zero_symbol}
use Rattle.algebra.specs.FieldOf.{FieldOf}
use Rattle.audit.proofs.Agreement.{agree_at_most}
use Rattle.audit.proofs.Marks.{codeword_symbol}
use Rattle.audit.specs.Words.{Message, agreeing}
use Rattle.definitions.proofs.Above.{Precedes, precedes_apart, above_in_order}
use Rattle.definitions.proofs.Bound.{bound_is_least}
use Rattle.definitions.proofs.Ordered.{Ordered}
use Rattle.definitions.proofs.Powers.{powers_of_y}
use Rattle.definitions.proofs.Sums.{sum_append, sum_blocks, sum_both, sum_but}
use Rattle.definitions.proofs.Tools.{sum_zero, sum_one, sum_ext, sum_le}
use Rattle.definitions.proofs.Weights.{entry_cost_suc}
use Rattle.definitions.specs.Bound.{count, bound}
use Rattle.definitions.specs.Code.{codeword}
use Rattle.definitions.specs.Field.{Code}
use Rattle.definitions.specs.Limits.{greatest_limit, greatest_rows}
use Rattle.definitions.specs.Listing.{above, list_of}
use Rattle.definitions.specs.Tools.{sum}
use Rattle.definitions.specs.Weights.{entry, entry_cost, cost, score}

-- ---- a matrix by position and symbol, and one lowered at a word's places

-- an entry without one costs that much less
cost_less : (m : ℕ) → entry_cost (m - 1) + m ≡ entry_cost m
cost_less zero = refl
cost_less (suc m) = let one : suc m - 1 ≡ m = omega arith in ap (λ (x : ℕ). entry_cost x + suc m) one ∙ sym (entry_cost_suc m)

-- a column lowered at one place
column_lowered : (q s : ℕ) (e : ℕ → ℕ) → s < q
    → sum q (λ (b : ℕ). entry_cost (cond (eqb b s) (e b - 1) (e b))) + e s ≡ sum q (λ (b : ℕ). entry_cost (e b))
column_lowered q s e h =
    let f : ℕ → ℕ = λ b. entry_cost (cond (eqb b s) (e b - 1) (e b)) in
    let but = sum_but q s f (λ b. entry_cost (e b)) h (λ b l n. rw (ne_eqb b s n) refl) in
    let here : f s ≡ entry_cost (e s - 1) = rw (eq-eqb s s refl) refl in
    let less = cost_less (e s) in
    omega arith

-- what another word has there
entry_lowered : (b s x : ℕ) → x ≤ cond (eqb b s) (x - 1) x + cond (eqb b s) 1 0
entry_lowered b s x =
    elim (ℕ_discrete b s) [
      | yes e ↦ rw (eq-eqb b s e) (omega arith)
      | no n ↦ rw (ne_eqb b s n) (omega arith)
    ]

module _ (q n : ℕ) where
  abbrev costs : (ℕ → ℕ → ℕ) → ℕ
  costs e = sum n (λ i. sum q (λ b. entry_cost (e i b)))

  abbrev scores : (ℕ → ℕ → ℕ) → List ℕ → ℕ
  scores e c = sum n (λ i. e i (get_or c i 0))

  abbrev lowered : (ℕ → ℕ → ℕ) → List ℕ → ℕ → ℕ → ℕ
  lowered e c i b = cond (eqb b (get_or c i 0)) (e i b - 1) (e i b)

  -- its cost is less by the word's score
  costs_lowered : (e : ℕ → ℕ → ℕ) (c : List ℕ) → ((i : ℕ) → i < n → get_or c i 0 < q) → costs (lowered e c) + scores e c ≡ costs e
  costs_lowered e c symbols =
      sym (sum_both n (λ i. sum q (λ b. entry_cost (lowered e c i b))) (λ i. e i (get_or c i 0)))
      ∙ sum_ext n (λ i. sum q (λ b. entry_cost (lowered e c i b)) + e i (get_or c i 0)) (λ i. sum q (λ b. entry_cost (e i b)))
      (λ i h. column_lowered q (get_or c i 0) (e i) (symbols i h))

  -- and another word's score is less by no more than both have in common
  scores_lowered : (e : ℕ → ℕ → ℕ) (c d : List ℕ) → scores e d ≤ scores (lowered e c) d + agreeing n d c
  scores_lowered e c d =
      let each = sum_le n (λ i. e i (get_or d i 0)) (λ i. lowered e c i (get_or d i 0) + cond (eqb (get_or d i 0) (get_or c i 0)) 1 0)
      (λ i h. entry_lowered (get_or d i 0) (get_or c i 0) (e i (get_or d i 0))) in
      let apart = sum_both n (λ i. lowered e c i (get_or d i 0)) (λ i. cond (eqb (get_or d i 0) (get_or c i 0)) 1 0) in
      omega arith

module _ (C : Code) (F : FieldOf C) (n k : ℕ) (small : n ≤ C.positions) where
  abbrev v : ℕ
  v = k - 1

  -- messages that differ, each with a score of X or more, when j before them were taken off: X - v j, X - v (j + 1) and so on are within the cost
  taken_off : (X j : ℕ) (l : List (List ℕ)) (e : ℕ → ℕ → ℕ) → Ordered (λ (f g : List ℕ). f ≢ g) l → ((f : List ℕ) → Memᴰ f l → Message C k f)
      → ((f : List ℕ) → Memᴰ f l → X ≤ scores C.symbols n e (codeword C n f) + v * j)
      → sum (length l) (λ (b : ℕ). X - v * (j + b)) ≤ costs C.symbols n e
  taken_off X j [] e apart messages high = rw (sum_zero (λ (b : ℕ). X - v * (j + b))) (omega arith)
  taken_off X j (f ∷ l) e apart messages high =
      let c = codeword C n f in
      let rest = taken_off X (suc j) l (lowered C.symbols n e c) apart.1 (λ g h. messages g (Memᴰ.tail h)) (λ g h.
      let more = scores_lowered C.symbols n e c (codeword C n g) in
      let common = agree_at_most C F n k g f small (messages g (Memᴰ.tail h)) (messages f (Memᴰ.head refl)) (λ same. apart.0 g h (sym same)) in
      let whole = high g (Memᴰ.tail h) in
      let step = mul-suc v j in
      omega arith) in
      let less = costs_lowered C.symbols n e c (codeword_symbol C F n k f (messages f (Memᴰ.head refl))) in
      let here = high f (Memᴰ.head refl) in
      let more : length (f ∷ l) ≡ 1 + length l = omega arith in
      let front = ap (λ (s : ℕ). sum s (λ (b : ℕ). X - v * (j + b))) more ∙ sum_append 1 (length l) (λ (b : ℕ). X - v * (j + b)) in
      let one = sum_one (λ (b : ℕ). X - v * (j + b)) ∙ ap (λ (x : ℕ). X - v * x) (add-zero j) in
      let later = sum_ext (length l) (λ (b : ℕ). X - v * (j + (1 + b))) (λ (b : ℕ). X - v * (suc j + b))
      (λ b _. ap (λ (x : ℕ). X - v * x) (let e : j + (1 + b) ≡ suc j + b = omega arith in e)) in
      omega arith

  module _ (m : List ℕ) (size : length m ≡ C.symbols * n) where
    cost_by_column : costs C.symbols n (entry C m) ≡ cost m
    cost_by_column =
        sym (ap (λ (s : ℕ). sum s (λ (j : ℕ). entry_cost (get_or m j 0))) size ∙ sum_blocks C.symbols n (λ (j : ℕ). entry_cost (get_or m j 0)))

    pub few_above : (D : ℕ) → cost m < count v D → length (above C n k m D) ≤ D / v
    few_above D dear =
        let all = above_in_order C (zero_symbol C F) n k m D in
        let l = above C n k m D in
        let off = taken_off (D + 1) 0 l (entry C m) (apart l all.ordered) (λ f h. (all.sized f h, all.symbols f h))
        (λ f h. let high = all.greater f h in omega arith) in
        let same = sum_ext (length l) (λ (b : ℕ). D + 1 - v * (0 + b)) (λ (b : ℕ). D + 1 - v * b)
        (λ b _. ap (λ (x : ℕ). D + 1 - v * x) (let e : 0 + b ≡ b = omega arith in e)) in
        let price = cost_by_column in
        elim (dec_lt (D / v) (length l)) [
          | yes many ↦
              let e : length l ≡ D / v + 1 + (length l - (D / v + 1)) = omega arith in
              let part = ap (λ (s : ℕ). sum s (λ (b : ℕ). D + 1 - v * b)) e ∙ sum_append (D / v + 1) (length l - (D / v + 1)) (λ (b : ℕ). D + 1 - v * b) in
              let z : ⊥ = omega arith in
              absurd z
          | no few ↦ omega arith
        ]
      where
        apart : (l : List (List ℕ)) → Ordered (Precedes (score C n m)) l → Ordered (λ (f g : List ℕ). f ≢ g) l
        apart [] o = tt
        apart (f ∷ l) o = (λ g h. precedes_apart (score C n m) f g (o.0 g h), apart l o.1)

    -- within the greatest limit there are no more than the greatest number of rows
    pub few_listed : 2 ≤ k → cost m ≤ greatest_limit → length (list_of C n k m) ≤ greatest_rows
    few_listed some cheap =
        let few = few_above (bound v (cost m)) (bound_is_least v (omega arith) (cost m)).0 in
        let low = powers_of_y v (omega arith) (cost m) cheap in
        omega arith
