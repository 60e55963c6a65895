-- The stored numbers of a matrix record: what a record that is rightly held says, and how its numbers move with an entry and with a column.
-- Assumes nothing.
use mathlib.Core.Bool.{true, ◌&&◌}
use mathlib.Core.List.{List, ◌++◌}
use mathlib.Core.Path.{◌≡◌, refl, sym, ◌∙◌, ap, ap₂}
use Prim.Native.Nat.{ℕ, ◌+◌, ◌*◌, ◌-◌, ◌≤◌, ◌<◌}
use native.Mathlib.Decide.{dec_lt, ℕ_discrete}
use native.Mathlib.Nat.{mul-suc, mul-le-mul_left}
use native.Mathlib.Omega.{arith}
use borrow.Author.Tests.{eqb-true, eq-eqb}
use lib.Dec.{eqb}
use lib.ListN.{length, get_or, take, drop, set, replicate, length-append, length-drop, length-replicate, length-set, get_or-append}
use lib.Seq.{ext_get_or, get_or-take, get_or-drop, get_or-append-add, get_or-set_same, get_or-set_other, take_at, length-take-le}
use Rattle.definitions.proofs.Every.{every_at, every_of}
use Rattle.definitions.proofs.Sums.{sum_of_zeros, sum_blocks, sum_tail, sum_but}
use Rattle.definitions.proofs.Tools.{both, length_map_below, map_below_at, sum_ext, sum_bound}
use Rattle.definitions.proofs.Zeros.{zeros_of_is_zero, is_zero_of_zeros, zero_at}
use Rattle.definitions.specs.Field.{Code}
use Rattle.definitions.specs.Held.{Held, places, no_entries, totals_of, filled, bytes_of, with_entry, without_column, totals_right, rightly}
use Rattle.definitions.specs.Polynomial.{is_zero}
use Rattle.definitions.specs.Tools.{sum}
use Rattle.definitions.specs.Weights.{entry, sum_of_column, entry_cost, cost}

-- the cost after setting an entry, and that of the old entry, are the cost before and that of the new one
pub cost_set : (m : List ℕ) (j x : ℕ) → j < length m → cost (set m j x) + entry_cost (get_or m j 0) ≡ cost m + entry_cost x
cost_set m j x h =
    let f : ℕ → ℕ = λ t. entry_cost (get_or (set m j x) t 0) in
    let g : ℕ → ℕ = λ t. entry_cost (get_or m t 0) in
    let e : f j ≡ entry_cost x = ap entry_cost (get_or-set_same m j x 0 h) in
    let moved = sum_but (length m) j f g h (λ t _ n. ap entry_cost (get_or-set_other m j t x 0 n)) in
    ap (λ (s : ℕ). sum s f + g j) (length-set m j x) ∙ moved ∙ ap (λ (y : ℕ). cost m + y) e

-- what is zero from n entries on costs what the first n entries cost
pub cost_of_front : (m : List ℕ) (n : ℕ) → n ≤ length m → ((j : ℕ) → n ≤ j → get_or m j 0 ≡ 0) → cost m ≡ cost (take n m)
cost_of_front m n h z =
    let size = length-take-le n m h in
    sum_tail n (length m) (λ j. entry_cost (get_or m j 0)) h (λ j l. ap entry_cost (z j l))
    ∙ sum_ext n (λ j. entry_cost (get_or m j 0)) (λ j. entry_cost (get_or (take n m) j 0)) (λ j l. ap entry_cost (sym (get_or-take n m j 0 l)))
    ∙ ap (λ (s : ℕ). sum s (λ (j : ℕ). entry_cost (get_or (take n m) j 0))) (sym size)

module _ (C : Code) where
  -- no place is in two columns
  pub one_column : (i j b c : ℕ) → b < C.symbols → c < C.symbols → (j ≡ i → ⊥) → C.symbols * j + c ≡ C.symbols * i + b → ⊥
  one_column i j b c hb hc n e =
      elim (dec_lt j i) [
        | yes l ↦ (let w = mul-le-mul_left C.symbols l in let s = mul-suc C.symbols j in let z : ⊥ = omega arith in z)
        | no g ↦
            elim (dec_lt i j) [
              | yes l ↦ (let w = mul-le-mul_left C.symbols l in let s = mul-suc C.symbols i in let z : ⊥ = omega arith in z)
              | no k ↦ n (omega arith)
            ]
      ]

  -- a place of a column lies within
  pub place_within : (i b : ℕ) → i < C.positions → b < C.symbols → C.symbols * i + b < places C
  place_within i b hi hb =
      let w = mul-le-mul_left C.symbols hi in
      let s = mul-suc C.symbols i in
      omega arith

  pub length_totals : (e : List ℕ) → length (totals_of C e) ≡ C.positions
  length_totals e = length_map_below (sum_of_column C e) C.positions

  pub total_at : (e : List ℕ) (i : ℕ) → i < C.positions → get_or (totals_of C e) i 0 ≡ sum_of_column C e i
  total_at e i h = map_below_at (sum_of_column C e) C.positions i 0 h

  -- of entries of at most g
  pub column_small : (e : List ℕ) (g : ℕ) → ((j : ℕ) → get_or e j 0 ≤ g) → (i : ℕ) → sum_of_column C e i ≤ C.symbols * g
  column_small e g low i = sum_bound C.symbols g (entry C e i) (λ c _. low (C.symbols * i + c))

  -- a column's total as it is stored anew, where no other column has moved
  pub total_moved : (d e : List ℕ) (i t : ℕ) → i < C.positions → t ≡ sum_of_column C e i
      → ((j : ℕ) → j < C.positions → (j ≡ i → ⊥) → sum_of_column C d j ≡ sum_of_column C e j) → set (totals_of C d) i t ≡ totals_of C e
  total_moved d e i t h et others =
      let size = length-set (totals_of C d) i t ∙ length_totals d in
      ext_get_or 0 (set (totals_of C d) i t) (totals_of C e) (size ∙ sym (length_totals e))
      (λ j l.
      elim (ℕ_discrete j i) [
        | yes same ↦
            ap (λ (k : ℕ). get_or (set (totals_of C d) i t) k 0) same
            ∙ get_or-set_same (totals_of C d) i t 0 (let s = length_totals d in omega arith) ∙ et ∙ sym (total_at e i h)
            ∙ ap (λ (k : ℕ). get_or (totals_of C e) k 0) (sym same)
        | no other ↦
            get_or-set_other (totals_of C d) i j t 0 other ∙ total_at d j (omega arith) ∙ others j (omega arith) other
            ∙ sym (total_at e j (omega arith))
      ])

  -- ---- an entry that is set

  module _ (e : List ℕ) (i b x : ℕ) (hb : b < C.symbols) (h : C.symbols * i + b < length e) where
    -- the column's sum after setting, and the old entry, are the sum before and the new entry
    pub column_set : sum_of_column C (with_entry C e i b x) i + entry C e i b ≡ sum_of_column C e i + x
    column_set =
        let f = entry C (with_entry C e i b x) i in
        let g = entry C e i in
        let here : f b ≡ x = get_or-set_same e (C.symbols * i + b) x 0 h in
        let moved = sum_but C.symbols b f g hb (λ c _ n. get_or-set_other e (C.symbols * i + b) (C.symbols * i + c) x 0 (λ s. n (omega arith))) in
        moved ∙ ap (λ (y : ℕ). sum_of_column C e i + y) here

    others_set : (j : ℕ) → (j ≡ i → ⊥) → sum_of_column C e j ≡ sum_of_column C (with_entry C e i b x) j
    others_set j n =
        sum_ext C.symbols (entry C e j) (entry C (with_entry C e i b x) j)
        (λ c hc. sym (get_or-set_other e (C.symbols * i + b) (C.symbols * j + c) x 0 (one_column i j b c hb hc n)))

    -- its column's total is told by the old one
    pub totals_set : (t : ℕ) → i < C.positions → t + entry C e i b ≡ get_or (totals_of C e) i 0 + x
        → set (totals_of C e) i t ≡ totals_of C (with_entry C e i b x)
    totals_set t hi et =
        let here = column_set in
        let old = total_at e i hi in
        total_moved e (with_entry C e i b x) i t hi (omega arith) (λ j _ n. others_set j n)

  -- ---- a column that is cleared

  module _ (e : List ℕ) (i : ℕ) (h : C.symbols * i + C.symbols ≤ length e) where
    front_size : length (take (C.symbols * i) e ++ replicate C.symbols 0) ≡ C.symbols * i + C.symbols
    front_size =
        length-append (take (C.symbols * i) e) (replicate C.symbols 0)
        ∙ ap₂ ◌+◌ (length-take-le (C.symbols * i) e (omega arith)) (length-replicate C.symbols 0)

    pub length_cleared : length (without_column C e i) ≡ length e
    length_cleared =
        let rest = length-drop (C.symbols * i + C.symbols) e in
        length-append (take (C.symbols * i) e ++ replicate C.symbols 0) (drop (C.symbols * i + C.symbols) e)
        ∙ ap (λ (s : ℕ). s + length (drop (C.symbols * i + C.symbols) e)) front_size ∙ omega arith

    -- its entries are zero
    pub cleared_in : (c : ℕ) → c < C.symbols → entry C (without_column C e i) i c ≡ 0
    cleared_in c hc =
        let size = length-take-le (C.symbols * i) e (omega arith) in
        get_or-append (take (C.symbols * i) e ++ replicate C.symbols 0) (drop (C.symbols * i + C.symbols) e) 0 (C.symbols * i + c)
        (let s = front_size in omega arith)
        ∙ ap (λ (s : ℕ). get_or (take (C.symbols * i) e ++ replicate C.symbols 0) (s + c) 0) (sym size)
        ∙ get_or-append-add (take (C.symbols * i) e) (replicate C.symbols 0) c 0 ∙ zero_at C.symbols c

    before : (j : ℕ) → j < C.symbols * i → get_or (without_column C e i) j 0 ≡ get_or e j 0
    before j l =
        let size = length-take-le (C.symbols * i) e (omega arith) in
        get_or-append (take (C.symbols * i) e ++ replicate C.symbols 0) (drop (C.symbols * i + C.symbols) e) 0 j (let s = front_size in omega arith)
        ∙ get_or-append (take (C.symbols * i) e) (replicate C.symbols 0) 0 j (omega arith) ∙ get_or-take (C.symbols * i) e j 0 l

    behind : (j : ℕ) → C.symbols * i + C.symbols ≤ j → get_or (without_column C e i) j 0 ≡ get_or e j 0
    behind j l =
        let at : C.symbols * i + C.symbols + (j - (C.symbols * i + C.symbols)) ≡ j = omega arith in
        let size = front_size in
        let front = take (C.symbols * i) e ++ replicate C.symbols 0 in
        let there : length front + (j - (C.symbols * i + C.symbols)) ≡ j = ap (λ (s : ℕ). s + (j - (C.symbols * i + C.symbols))) size ∙ at in
        ap (λ (k : ℕ). get_or (without_column C e i) k 0) (sym there)
        ∙ get_or-append-add front (drop (C.symbols * i + C.symbols) e) (j - (C.symbols * i + C.symbols)) 0
        ∙ get_or-drop (C.symbols * i + C.symbols) e (j - (C.symbols * i + C.symbols)) 0 ∙ ap (λ (k : ℕ). get_or e k 0) at

    -- all others stay
    pub cleared_out : (j c : ℕ) → c < C.symbols → (j ≡ i → ⊥) → entry C (without_column C e i) j c ≡ entry C e j c
    cleared_out j c hc n =
        elim (dec_lt j i) [
          | yes l ↦
              let w = mul-le-mul_left C.symbols l in
              let s = mul-suc C.symbols j in
              before (C.symbols * j + c) (omega arith)
          | no g ↦
              let past : i < j = elim (dec_lt i j) [ yes l ↦ l | no k ↦ (let y = n (omega arith) in absurd y) ] in
              let w = mul-le-mul_left C.symbols past in
              let s = mul-suc C.symbols i in
              behind (C.symbols * j + c) (omega arith)
        ]

    -- no entry has grown
    pub cleared_below : (j : ℕ) → get_or (without_column C e i) j 0 ≤ get_or e j 0
    cleared_below j =
        elim (dec_lt j (C.symbols * i)) [
          | yes l ↦ (let s = before j l in omega arith)
          | no g ↦
              elim (dec_lt j (C.symbols * i + C.symbols)) [
                | yes l ↦
                    let at : C.symbols * i + (j - C.symbols * i) ≡ j = omega arith in
                    let z = cleared_in (j - C.symbols * i) (omega arith) in
                    let y = ap (λ (k : ℕ). get_or (without_column C e i) k 0) at in
                    omega arith
                | no k ↦ (let s = behind j (omega arith) in omega arith)
              ]
        ]

    pub totals_cleared : i < C.positions → set (totals_of C e) i 0 ≡ totals_of C (without_column C e i)
    totals_cleared hi =
        total_moved e (without_column C e i) i 0 hi
        (sym
        (sum_ext C.symbols (entry C (without_column C e i) i) (λ (_ : ℕ). 0) (λ c hc. cleared_in c hc)
        ∙ sum_of_zeros C.symbols (λ (_ : ℕ). 0) (λ _. refl)))
        (λ j _ n. sum_ext C.symbols (entry C e j) (entry C (without_column C e i) j) (λ c hc. sym (cleared_out j c hc n)))

    -- the cost is without that of the column
    pub cost_cleared : i < C.positions → length e ≡ places C
        → cost (without_column C e i) + sum C.symbols (λ (c : ℕ). entry_cost (entry C e i c)) ≡ cost e
    cost_cleared hi full =
        let block : List ℕ → ℕ → ℕ = λ d j. sum C.symbols (λ (c : ℕ). entry_cost (entry C d j c)) in
        let in_blocks : (d : List ℕ) → length d ≡ places C → cost d ≡ sum C.positions (block d) =
        λ d size.
        ap (λ (s : ℕ). sum s (λ (j : ℕ). entry_cost (get_or d j 0))) size ∙ sum_blocks C.symbols C.positions (λ j. entry_cost (get_or d j 0)) in
        let none : block (without_column C e i) i ≡ 0 =
        sum_ext C.symbols (λ c. entry_cost (entry C (without_column C e i) i c)) (λ (_ : ℕ). 0) (λ c hc. ap entry_cost (cleared_in c hc))
        ∙ sum_of_zeros C.symbols (λ (_ : ℕ). 0) (λ _. refl) in
        let moved =
        sum_but C.positions i (block (without_column C e i)) (block e) hi
        (λ j _ n. sum_ext C.symbols (λ c. entry_cost (entry C (without_column C e i) j c)) (λ c. entry_cost (entry C e j c)) (λ c hc. ap entry_cost (cleared_out j c hc n))) in
        let a = in_blocks (without_column C e i) (length_cleared ∙ full) in
        let b = in_blocks e full in
        omega arith

  -- a column alone costs what its entries cost
  pub cost_of_column : (e : List ℕ) (i : ℕ) → C.symbols * i + C.symbols ≤ length e
      → cost (take C.symbols (drop (C.symbols * i) e)) ≡ sum C.symbols (λ (c : ℕ). entry_cost (entry C e i c))
  cost_of_column e i h =
      let part = take C.symbols (drop (C.symbols * i) e) in
      let rest = length-drop (C.symbols * i) e in
      ap (λ (s : ℕ). sum s (λ (c : ℕ). entry_cost (get_or part c 0))) (length-take-le C.symbols (drop (C.symbols * i) e) (omega arith))
      ∙ sum_ext C.symbols (λ c. entry_cost (get_or part c 0)) (λ c. entry_cost (entry C e i c))
      (λ c hc. ap entry_cost (get_or-take C.symbols (drop (C.symbols * i) e) c 0 hc ∙ get_or-drop (C.symbols * i) e c 0))

  -- ---- bytes, and the entries of a record

  module _ (m : List ℕ) (h : length m ≤ places C) where
    pub length_filled : length (filled C m) ≡ places C
    length_filled =
        let all = length-replicate {A = ℕ} (places C) 0 in
        let rest = length-drop (length m) (no_entries C) in
        length-append m (drop (length m) (no_entries C)) ∙ omega arith

    pub filled_behind : (j : ℕ) → length m ≤ j → get_or (filled C m) j 0 ≡ 0
    filled_behind j l =
        let at : length m + (j - length m) ≡ j = omega arith in
        ap (λ (k : ℕ). get_or (filled C m) k 0) (sym at) ∙ get_or-append-add m (drop (length m) (no_entries C)) (j - length m) 0
        ∙ get_or-drop (length m) (no_entries C) (j - length m) 0 ∙ zero_at (places C) (length m + (j - length m))

    pub filled_front : take (length m) (filled C m) ≡ m
    filled_front = take_at m (drop (length m) (no_entries C)) (length m) refl

    -- bytes cost what their record does
    pub cost_filled : cost (filled C m) ≡ cost m
    cost_filled =
        cost_of_front (filled C m) (length m) (let s = length_filled in omega arith) filled_behind ∙ ap cost filled_front

  -- of zeros alone all is zero
  pub cost_none : cost (no_entries C) ≡ 0
  cost_none = sum_of_zeros (length (no_entries C)) (λ j. entry_cost (get_or (no_entries C) j 0)) (λ j. ap entry_cost (zero_at (places C) j))

  pub totals_none : totals_of C (no_entries C) ≡ replicate C.positions 0
  totals_none =
      let size = length-replicate {A = ℕ} C.positions 0 in
      ext_get_or 0 (totals_of C (no_entries C)) (replicate C.positions 0) (length_totals (no_entries C) ∙ sym size)
      (λ i l.
      total_at (no_entries C) i (let s = length_totals (no_entries C) in omega arith)
      ∙ sum_of_zeros C.symbols (entry C (no_entries C) i) (λ b. zero_at (places C) (C.symbols * i + b)) ∙ sym (zero_at C.positions i))

  -- ---- a record that is rightly held

  pub record Rightly (h : Held) : Type 0 where
    pub full : length h.entries ≡ places C
    pub totals_are : h.totals ≡ totals_of C h.entries
    pub cost_is : h.cost ≡ cost h.entries
    pub unused : (j : ℕ) → C.symbols * h.n ≤ j → get_or h.entries j 0 ≡ 0

  pub rightly_means : (h : Held) → rightly C h ≡ true → Rightly h
  rightly_means h e =
      let counts = eqb (length h.totals) C.positions in
      let fills = eqb (length h.entries) (places C) in
      let totals = totals_right C h.totals h.entries in
      let costs = eqb h.cost (cost h.entries) in
      let rest = is_zero (drop (C.symbols * h.n) h.entries) in
      let a = both counts (fills && (totals && (costs && rest))) e in
      let b = both fills (totals && (costs && rest)) a.1 in
      let c = both totals (costs && rest) b.1 in
      let d = both costs rest c.1 in
      let size = eqb-true (length h.totals) C.positions a.0 in
      record {
        full = eqb-true (length h.entries) (places C) b.0;
        totals_are =
            ext_get_or 0 h.totals (totals_of C h.entries) (size ∙ sym (length_totals h.entries))
            (λ i l.
            eqb-true (get_or h.totals i 0) (sum_of_column C h.entries i) (every_at (λ (i : ℕ). eqb (get_or h.totals i 0) (sum_of_column C h.entries i)) C.positions i c.0 (omega arith))
            ∙ sym (total_at h.entries i (omega arith)));
        cost_is = eqb-true h.cost (cost h.entries) d.0;
        unused = λ j l.
            let at : C.symbols * h.n + (j - C.symbols * h.n) ≡ j = omega arith in
            ap (λ (k : ℕ). get_or h.entries k 0) (sym at) ∙ sym (get_or-drop (C.symbols * h.n) h.entries (j - C.symbols * h.n) 0)
            ∙ zeros_of_is_zero (drop (C.symbols * h.n) h.entries) d.1 (j - C.symbols * h.n);
      }

  -- a total is stored for each column
  pub length_stored : (h : Held) → Rightly h → length h.totals ≡ C.positions
  length_stored h r = ap length r.totals_are ∙ length_totals h.entries

  pub rightly_held : (h : Held) → Rightly h → rightly C h ≡ true
  rightly_held h r =
      let size = length_stored h r in
      let totals : totals_right C h.totals h.entries ≡ true =
      every_of (λ (i : ℕ). eqb (get_or h.totals i 0) (sum_of_column C h.entries i)) C.positions
      (λ i l. eq-eqb (get_or h.totals i 0) (sum_of_column C h.entries i) (ap (λ (t : List ℕ). get_or t i 0) r.totals_are ∙ total_at h.entries i l)) in
      let rest : is_zero (drop (C.symbols * h.n) h.entries) ≡ true =
      is_zero_of_zeros (drop (C.symbols * h.n) h.entries)
      (λ t. get_or-drop (C.symbols * h.n) h.entries t 0 ∙ r.unused (C.symbols * h.n + t) (omega arith)) in
      rw (eq-eqb (length h.totals) C.positions size, eq-eqb (length h.entries) (places C) r.full, totals, eq-eqb h.cost (cost h.entries) r.cost_is) rest

  module _ (h : Held) (r : Rightly h) (small : h.n ≤ C.positions) where
    pub used_within : C.symbols * h.n ≤ length h.entries
    used_within = let w = mul-le-mul_left C.symbols small in let s = r.full in omega arith

    -- the stored cost is that of the bytes
    pub cost_bytes : h.cost ≡ cost (bytes_of C h)
    cost_bytes = r.cost_is ∙ cost_of_front h.entries (C.symbols * h.n) used_within r.unused
