-- Matrices added entry by entry: the score is the sum of the scores, the cost both costs and the products of equal places; of the entries, of
-- the bytes of a record, and of the numbers that it stores.
-- Assumes nothing.
use mathlib.Core.List.{List}
use mathlib.Core.Path.{◌≡◌, refl, sym, ◌∙◌, ap, ap₂}
use Prim.Native.Nat.{ℕ, ◌+◌, ◌*◌, ◌≤◌}
use native.Mathlib.Decide.{dec_lt}
use native.Mathlib.Omega.{arith}
use lib.ListN.{length, get_or, take, get_or-eq_default}
use lib.Seq.{ext_get_or, get_or-take, length-take-le}
use Rattle.audit.specs.Laws.{SumLaws}
use Rattle.audit.specs.Words.{Accepted, products}
use Rattle.definitions.proofs.Editing.{added_at, length_added, same_size_means, stored_means}
use Rattle.definitions.proofs.Held.{Rightly, length_totals, total_at, used_within}
use Rattle.definitions.proofs.Sums.{sum_both}
use Rattle.definitions.proofs.Table.{Accepts, next, end, accepts, zero_accepts, size_means}
use Rattle.definitions.proofs.Tools.{sum_ext}
use Rattle.definitions.proofs.Weights.{entry_cost_sum}
use Rattle.definitions.specs.Answers.{costed}
use Rattle.definitions.specs.Code.{codeword}
use Rattle.definitions.specs.Editing.{add_table, add_held}
use Rattle.definitions.specs.Field.{Code}
use Rattle.definitions.specs.Held.{Held, held_of, totals_of, bytes_of, with_added}
use Rattle.definitions.specs.Tools.{sum}
use Rattle.definitions.specs.Weights.{entry, sum_of_column, entry_cost, cost, score}

module _ (d e : List ℕ) (same : length d ≡ length e) where
  -- every place, also one past the end
  sum_at : (j : ℕ) → get_or (with_added d e) j 0 ≡ get_or d j 0 + get_or e j 0
  sum_at j =
      elim (dec_lt j (length d)) [
        | yes h ↦ added_at d e j h
        | no g ↦
            let size = length_added d e in
            get_or-eq_default (with_added d e) 0 {n = j} (omega arith)
            ∙ sym (ap₂ ◌+◌ (get_or-eq_default d 0 {n = j} (omega arith)) (get_or-eq_default e 0 {n = j} (omega arith)))
      ]

  pub cost_added : cost (with_added d e) ≡ cost d + cost e + products d e
  cost_added =
      let n = length d in
      let a : ℕ → ℕ = λ j. entry_cost (get_or d j 0) in
      let b : ℕ → ℕ = λ j. entry_cost (get_or e j 0) in
      let p : ℕ → ℕ = λ j. get_or d j 0 * get_or e j 0 in
      ap (λ (s : ℕ). sum s (λ (j : ℕ). entry_cost (get_or (with_added d e) j 0))) (length_added d e)
      ∙ sum_ext n (λ j. entry_cost (get_or (with_added d e) j 0)) (λ j. a j + b j + p j)
      (λ j _. ap entry_cost (sum_at j) ∙ entry_cost_sum (get_or d j 0) (get_or e j 0))
      ∙ sum_both n (λ j. a j + b j) p ∙ ap (λ (x : ℕ). x + products d e) (sum_both n a b ∙ ap (λ (s : ℕ). cost d + sum s b) same)

  pub score_added : (C : Code) (n : ℕ) (f : List ℕ) → score C n (with_added d e) f ≡ score C n d f + score C n e f
  score_added C n f =
      let b : ℕ → ℕ = λ i. get_or (codeword C n f) i 0 in
      sum_ext n (λ i. entry C (with_added d e) i (b i)) (λ i. entry C d i (b i) + entry C e i (b i)) (λ i _. sum_at (C.symbols * i + b i))
      ∙ sum_both n (λ i. entry C d i (b i)) (λ i. entry C e i (b i))

  pub column_added : (C : Code) (i : ℕ) → sum_of_column C (with_added d e) i ≡ sum_of_column C d i + sum_of_column C e i
  column_added C i =
      sum_ext C.symbols (entry C (with_added d e) i) (λ b. entry C d i b + entry C e i b) (λ b _. sum_at (C.symbols * i + b))
      ∙ sum_both C.symbols (entry C d i) (entry C e i)

  -- the first n entries of the sum are the sums of the first n
  pub take_added : (n : ℕ) → n ≤ length d → take n (with_added d e) ≡ with_added (take n d) (take n e)
  take_added n h =
      let size = length_added d e in
      let left = length-take-le n (with_added d e) (omega arith) in
      let right = length_added (take n d) (take n e) ∙ length-take-le n d h in
      ext_get_or 0 (take n (with_added d e)) (with_added (take n d) (take n e)) (left ∙ sym right)
      (λ j l.
      let part = length-take-le n d h in
      get_or-take n (with_added d e) j 0 (omega arith) ∙ sum_at j
      ∙ sym
      (added_at (take n d) (take n e) j (omega arith)
      ∙ ap₂ ◌+◌ (get_or-take n d j 0 (omega arith)) (get_or-take n e j 0 (omega arith))))

module _ (C : Code) (h o : Held) where
  abbrev summed : Held
  summed = held_of C h.n (with_added h.entries o.entries)

  -- of two records that are rightly held
  laws_of_summed : Rightly C h → Rightly C o → h.n ≡ o.n → h.n ≤ C.positions → add_held C h o ≡ summed → SumLaws C h o
  laws_of_summed r s sizes small is =
      record {
        entries_added = ap (bytes_of C) is ∙ bytes;
        totals_added = λ i. ap (λ (x : Held). get_or x.totals i 0) is ∙ total i;
        score_of_sum = λ f. ap (λ (m : List ℕ). score C h.n m f) (ap (bytes_of C) is ∙ bytes) ∙ score_added (bytes_of C h) (bytes_of C o) part C h.n f;
        cost_of_sum = ap cost (ap (bytes_of C) is ∙ bytes) ∙ cost_added (bytes_of C h) (bytes_of C o) part;
        stored_cost_of_sum =
            ap (λ (x : Held). x.cost) is ∙ cost_added h.entries o.entries full
            ∙ ap (λ (x : ℕ). x + products h.entries o.entries) (ap₂ ◌+◌ (sym r.cost_is) (sym s.cost_is));
      }
    where
      full : length h.entries ≡ length o.entries
      full = r.full ∙ sym s.full

      within : C.symbols * h.n ≤ length h.entries
      within = used_within C h r small

      bytes : bytes_of C summed ≡ with_added (bytes_of C h) (bytes_of C o)
      bytes =
          take_added h.entries o.entries full (C.symbols * h.n) within
          ∙ ap (λ (n : ℕ). with_added (bytes_of C h) (take (C.symbols * n) o.entries)) sizes

      part : length (bytes_of C h) ≡ length (bytes_of C o)
      part =
          length-take-le (C.symbols * h.n) h.entries within
          ∙ sym
          (ap (λ (n : ℕ). length (take (C.symbols * n) o.entries)) (sym sizes)
          ∙ length-take-le (C.symbols * h.n) o.entries (let e = full in let w = within in omega arith))

      -- the totals of records, also past the last
      totals_of_lem : (x : Held) → Rightly C x → (i : ℕ) → get_or x.totals i 0 ≡ get_or (totals_of C x.entries) i 0
      totals_of_lem x right i = ap (λ (t : List ℕ). get_or t i 0) right.totals_are

      past : (i : ℕ) → C.positions ≤ i → (e : List ℕ) → get_or (totals_of C e) i 0 ≡ 0
      past i g e = get_or-eq_default (totals_of C e) 0 {n = i} (let size = length_totals C e in omega arith)

      total : (i : ℕ) → get_or (totals_of C (with_added h.entries o.entries)) i 0 ≡ get_or h.totals i 0 + get_or o.totals i 0
      total i =
          elim (dec_lt i C.positions) [
            | yes l ↦
                total_at C (with_added h.entries o.entries) i l ∙ column_added h.entries o.entries full C i
                ∙ sym (ap₂ ◌+◌ (totals_of_lem h r i ∙ total_at C h.entries i l) (totals_of_lem o s i ∙ total_at C o.entries i l))
            | no g ↦
                past i (omega arith) (with_added h.entries o.entries)
                ∙ sym (ap₂ ◌+◌ (totals_of_lem h r i ∙ past i (omega arith) h.entries) (totals_of_lem o s i ∙ past i (omega arith) o.entries))
          ]

  -- what the lines of `add` say of a sum that is accepted
  laws_of_lines : Accepts (add_table C h o) → add_held C h o ≡ summed → SumLaws C h o
  laws_of_lines (next n (next m (next t (next u (next a end))))) is =
      laws_of_summed (stored_means C h t) (stored_means C o u) (same_size_means h.n o.n m) (size_means C h.n n).1 is

  pub laws_of_sum : Accepted C h o → SumLaws C h o
  laws_of_sum taken =
      let lines = zero_accepts (add_table C h o) (costed summed.cost 0) refl taken in
      laws_of_lines lines (sym (accepts (λ _ _. h) summed lines))
