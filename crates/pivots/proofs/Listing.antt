-- The rows that lose a multiple of the pivot row, listed with their factors.
-- Assumes nothing.
use Rattle.std.proofs.Common.{Bool, not, eqb, ◌≢◌, ◌≡◌, ℕ, suc, ◌+◌, ◌≤◌, ◌<◌, List, [], map, length, get_or, take, arith, sym, ◌∙◌, ap, subst, add-one, eq-eqb, ne_eqb, length-take-le}
use Rattle.std.proofs.lemmas.List.{get_or-map, get_or-take, take-map, map-set, length-map}
use Rattle.std.proofs.Math.ListN.{set}
use Rattle.std.proofs.Math.Seq.{get_or-set_same, get_or-set_other}
use native.Mathlib.Decide.{ℕ_discrete}
use mir.Val.{bool_byte}
use Rattle.algebra.specs.Grid.{entry_of}
use Rattle.definitions.specs.Field.{Code}
use Rattle.linear.proofs.Listed.{listed_none, listed_zero, listed_more}
use Rattle.pivots.specs.System.{rows_of, factors_of, ListedRows, TargetRows, Factors, DoneIn}
use Rattle.pivots.specs.declared.Target.{Target}
use Rattle.blocks.specs.Row.{width}

module _ (f : Target → ℕ) (targets : List Target) where
  -- one is written
  written_here : (n : ℕ) (new : Target) → n < length targets → get_or (map f (set targets n new)) n 0 ≡ f new
  written_here n new h =
      ap (λ (l : List ℕ). get_or l n 0) (map-set f targets n new) ∙ get_or-set_same (map f targets) n (f new) 0 (let e = length-map targets f in omega arith)

  -- and the others stay
  written_other : (n i : ℕ) (new : Target) → i < n → get_or (map f (set targets n new)) i 0 ≡ get_or (map f targets) i 0
  written_other n i new h =
      ap (λ (l : List ℕ). get_or l i 0) (map-set f targets n new) ∙ get_or-set_other (map f targets) n i (f new) 0 (λ e. omega arith)

  -- the first n are taken
  taken : (n i : ℕ) → i < n → get_or (map f (take n targets)) i 0 ≡ get_or (map f targets) i 0
  taken n i h = ap (λ (l : List ℕ). get_or l i 0) (sym (take-map f n targets)) ∙ get_or-take n (map f targets) i 0 h

-- the byte of a test against zero is 0 of zero, and 1 of all else
pub record Counted (x o : ℕ) : Type 0 where
  pub none : x ≡ 0 → o ≡ 0
  pub one : x ≢ 0 → o ≡ 1
  pub most : o ≤ 1

pub counted : (x o : ℕ) → o ≡ bool_byte (not (eqb x 0)) → Counted x o
counted x o is =
    elim (ℕ_discrete x 0) [
      | yes e ↦
          let z : o ≡ 0 = is ∙ ap (λ (b : Bool). bool_byte (not b)) (eq-eqb x 0 e) in
          record { none = λ _. z; one = λ n. absurd (n e); most = omega arith }
      | no n ↦
          let z : o ≡ 1 = is ∙ ap (λ (b : Bool). bool_byte (not b)) (ne_eqb x 0 n) in
          record { none = λ e. absurd (n e); one = λ _. z; most = omega arith }
    ]

-- no row is listed yet
pub rows_none : (j : ℕ) (m : List (List ℕ)) (targets : List Target) → ListedRows (j + 1) j 0 m (rows_of targets) (factors_of targets)
rows_none j m targets = subst (λ (n : ℕ). ListedRows n j 0 m (rows_of targets) (factors_of targets)) (sym (add-one j)) (listed_none j _ _ _)

-- row t is looked at: it is written, and counted where its entry is not zero
pub rows_more : (t j n o : ℕ) (m : List (List ℕ)) (targets : List Target) (new : Target) → j < t → n < length targets
    → ListedRows t j n m (rows_of targets) (factors_of targets) → new.row ≡ t → new.factor ≡ entry_of m t j → Counted new.factor o
    → ListedRows (t + 1) j (n + o) m (rows_of (set targets n new)) (factors_of (set targets n new))
rows_more t j n o m targets new low h ok here its count =
    subst (λ (s : ℕ). ListedRows s j (n + o) m (rows_of after) (factors_of after)) (sym (add-one t))
    (elim (ℕ_discrete new.factor 0) [
      | yes e ↦
          subst ListedTo (let z = count.none e in let c : n ≡ n + o = omega arith in c) (listed_zero t j n _ _ _ _ _ ok same equal (sym its ∙ e))
      | no e ↦
          subst ListedTo (let z = count.one e in let c : suc n ≡ n + o = omega arith in c)
          (listed_more t j n _ _ _ _ _ ok same equal low (λ z. e (its ∙ z)) (written_here (λ (s : Target). s.row) targets n new h ∙ here)
          (written_here (λ (s : Target). s.factor) targets n new h ∙ its))
    ])
  where
    after : List Target
    after = set targets n new

    ListedTo : ℕ → Type 0
    ListedTo l = ListedRows (suc t) j l m (rows_of after) (factors_of after)

    same : (i : ℕ) → i < n → get_or (rows_of after) i 0 ≡ get_or (rows_of targets) i 0
    same i = written_other (λ (s : Target). s.row) targets n i new

    equal : (i : ℕ) → i < n → get_or (factors_of after) i 0 ≡ get_or (factors_of targets) i 0
    equal i = written_other (λ (s : Target). s.factor) targets n i new

-- the first n of them are those that are listed
pub rows_taken : (R j n : ℕ) (m : List (List ℕ)) (targets : List Target) → n ≤ length targets → ListedRows R j n m (rows_of targets) (factors_of targets)
    → ListedRows R j (length (take n targets)) m (rows_of (take n targets)) (factors_of (take n targets))
rows_taken R j n m targets h l =
    subst (λ (k : ℕ). ListedRows R j k m (rows_of (take n targets)) (factors_of (take n targets))) (sym (length-take-le n targets h))
    record {
      behind = λ i g. let e = row i g in let b = l.behind i g in omega arith;
      within = λ i g. let e = row i g in let b = l.within i g in omega arith;
      factor = λ i g. taken (λ (s : Target). s.factor) targets n i g ∙ l.factor i g ∙ ap (λ (t : ℕ). entry_of m t j) (sym (row i g));
      nonzero = λ i g z. l.nonzero i g (ap (λ (t : ℕ). entry_of m t j) (sym (row i g)) ∙ z);
      apart = λ i k g f e. l.apart i k g f (sym (row i (omega arith)) ∙ e ∙ row k f);
      all = λ t a b z. let w = l.all t a b z in record { at = w.at; low = w.low; is = row w.at w.low ∙ w.is };
    }
  where
    row : (i : ℕ) → i < n → get_or (rows_of (take n targets)) i 0 ≡ get_or (rows_of targets) i 0
    row i = taken (λ (s : Target). s.row) targets n i

-- one of the targets: its row is there and has the width of a row, and its factor is a symbol
pub record TargetAt (C : Code) (m : List (List ℕ)) (targets : List Target) (i t x : ℕ) : Type 0 where
  pub row : t ≡ get_or (rows_of targets) i 0
  pub factor : x ≡ get_or (factors_of targets) i 0
  pub room : t < length m
  pub wide : length (get_or m t []) ≡ width
  pub symbol : x < C.symbols

pub target_at : (C : Code) (from to j i t x : ℕ) (targets : List Target) (o m : List (List ℕ))
    → TargetRows (length o) j (length targets) (rows_of targets) × Factors C (length targets) (factors_of targets)
    → DoneIn C from to j i (rows_of targets) (factors_of targets) o m → i < length targets → t ≡ (get_or targets i record { row = 0; factor = 0 }).row
    → x ≡ (get_or targets i record { row = 0; factor = 0 }).factor → TargetAt C m targets i t x
target_at C from to j i t x targets o m r d h et ex =
    let row = et ∙ sym (get_or-map (λ (s : Target). s.row) targets i record { row = 0; factor = 0 } 0 h) in
    let factor = ex ∙ sym (get_or-map (λ (s : Target). s.factor) targets i record { row = 0; factor = 0 } 0 h) in
    let within = r.0.within i h in
    let symbol = r.1 i h in
    let same = d.size in
    let room : t < length m = omega arith in
    record { row = row; factor = factor; room = room; wide = d.system.wide t room; symbol = omega arith }
