-- The place that leads: quotients compared by products, the better of two leaders, and that what leads all places is the best.
-- Assumes nothing.
use mathlib.Core.Bool.{true, false, not, cond, true≢false}
use mathlib.Core.List.{List}
use mathlib.Core.Path.{◌≡◌, refl, sym, ◌∙◌, ap, ap₂, subst}
use Prim.Native.Nat.{ℕ, zero, suc, ◌+◌, ◌-◌, ◌*◌, ◌≤◌, ◌<◌}
use native.Mathlib.Decide.{dec_lt, ℕ_discrete}
use native.Mathlib.Nat.{mul-suc, le_refl, le_trans, le_of_eq, le_of_lt, lt_of_le_of_lt, lt_of_lt_of_le, mul_right_comm, mul-le-mul_right, mul-lt-mul_of_pos_right, lt_of_mul-lt-mul_right}
use native.Mathlib.Numerals.{add-one}
use native.Mathlib.Omega.{arith}
use borrow.Author.Tests.{ltb-true, ltb-false, lt-ltb, le-ltb}
use lib.Dec.{ltb}
use lib.ListN.{length, get_or, set, length-set}
use lib.Seq.{get_or-set_same, get_or-set_other}
use Rattle.definitions.proofs.Every.{every_of, every_but}
use Rattle.definitions.proofs.Held.{one_column}
use Rattle.definitions.proofs.Tools.{split, smallest_is}
use Rattle.definitions.specs.Field.{Code}
use Rattle.definitions.specs.Planning.{beats, best}
use Rattle.definitions.specs.Tools.{every}
use Rattle.plans.specs.Laws.{times}
use Rattle.plans.specs.Leads.{Leads, LeadsColumn, Led}

-- a/p ≤ b/q < c/s, in products
quotients : (a b c p q s : ℕ) → 0 < p → a * q ≤ b * p → b * s < c * q → a * s < c * p
quotients a b c p q s some h g =
    lt_of_mul-lt-mul_right q
    (lt_of_le_of_lt (le_trans (le_of_eq (mul_right_comm a s q)) (le_trans (mul-le-mul_right s h) (le_of_eq (mul_right_comm b p s))))
    (lt_of_lt_of_le (mul-lt-mul_of_pos_right {k = p} g some) (le_of_eq (mul_right_comm c q p))))

-- of two places
module _ (r m : List ℕ) (earlier later kept new : ℕ) (is_kept : kept ≡ get_or r earlier 0 * (get_or m later 0 + 1))
    (is_new : new ≡ get_or r later 0 * (get_or m earlier 0 + 1)) where
  pub later_wins : kept < new → later ≡ cond (beats r m later earlier) later earlier
  later_wins h = rw (lt-ltb _ _ (rw (is_kept, is_new) at h))

  pub earlier_wins : new ≤ kept → earlier ≡ cond (beats r m later earlier) later earlier
  earlier_wins h = rw (le-ltb _ _ (rw (is_kept, is_new) at h))

module _ (r m : List ℕ) where
  -- what beats a place beats all that do not
  beats_too : (j b i : ℕ) → beats r m j b ≡ true → beats r m i b ≡ false → beats r m j i ≡ true
  beats_too j b i g h =
      lt-ltb (times r m i j) (times r m j i)
      (quotients (get_or r i 0) (get_or r b 0) (get_or r j 0) (get_or m i 0 + 1) (get_or m b 0 + 1) (get_or m j 0 + 1) (omega arith) (ltb-false (times r m b i) (times r m i b) h)
      (ltb-true (times r m b j) (times r m j b) g))

  -- and is not beaten by them
  not_back : (j i : ℕ) → beats r m j i ≡ true → beats r m i j ≡ false
  not_back j i g = le-ltb (times r m j i) (times r m i j) (le_of_lt (ltb-true (times r m i j) (times r m j i) g))

  not_itself : (i : ℕ) → beats r m i i ≡ false
  not_itself i = le-ltb (times r m i i) (times r m i i) (le_refl (times r m i i))

  -- a place alone
  pub leads_itself : (j : ℕ) → Leads r m j (j + 1) j
  leads_itself j = record {
    from = omega arith;
    to = omega arith;
    unbeaten = λ i h l. let e : j ≡ i = omega arith in ap (λ (t : ℕ). beats r m t j) (sym e) ∙ not_itself j;
    lowest = λ i h l. let z : ⊥ = omega arith in absurd z;
  }

  -- of two that lead neighbouring places the later leads both where it beats the earlier
  later_leads : (a b c x y : ℕ) → Leads r m a b x → Leads r m b c y → beats r m y x ≡ true → Leads r m a c y
  later_leads a b c x y l k g =
      let la = l.from in
      let lb = l.to in
      let ka = k.from in
      let before : (i : ℕ) → a ≤ i → i < b → beats r m y i ≡ true = λ i h e. beats_too y x i g (l.unbeaten i h e) in
      record {
        from = omega arith;
        to = k.to;
        unbeaten = λ i h e.
            elim (dec_lt i b) [
              | yes s ↦ not_back y i (before i h s)
              | no n ↦ k.unbeaten i (omega arith) e
            ];
        lowest = λ i h e.
            elim (dec_lt i b) [
              | yes s ↦ before i h s
              | no n ↦ k.lowest i (omega arith) e
            ];
      }

  -- and otherwise the earlier does
  earlier_leads : (a b c x y : ℕ) → Leads r m a b x → Leads r m b c y → beats r m y x ≡ false → Leads r m a c x
  earlier_leads a b c x y l k f =
      let lb = l.to in
      let kb = k.from in
      let kc = k.to in
      let behind : (i : ℕ) → b ≤ i → i < c → beats r m i x ≡ false =
      λ i h e. split (beats r m i x) (λ t. absurd (true≢false (sym (beats_too i x y t f) ∙ k.unbeaten i h e))) (λ n. n) in
      record {
        from = l.from;
        to = omega arith;
        unbeaten = λ i h e.
            elim (dec_lt i b) [
              | yes s ↦ l.unbeaten i h s
              | no n ↦ behind i (omega arith) e
            ];
        lowest = l.lowest;
      }

  pub better_leads : (a b c x y z : ℕ) → Leads r m a b x → Leads r m b c y → z ≡ cond (beats r m y x) y x → Leads r m a c z
  better_leads a b c x y z l k e =
      split (beats r m y x) (λ t. rw (e, t) (later_leads a b c x y l k t)) (λ f. rw (e, f) (earlier_leads a b c x y l k f))

  -- what leads all places is the smallest place that none beats
  pub leads_all : (b : ℕ) → Leads r m 0 (length r) b → b ≡ best r m
  leads_all b l =
      let inside = l.to in
      sym (smallest_is (λ i. every (length r) (λ j. not (beats r m j i))) (length r) b (omega arith)
      (λ i h. every_but (λ j. not (beats r m j i)) (length r) b inside (ap not (l.lowest i (omega arith) h)))
      (λ _. every_of (λ j. not (beats r m j b)) (length r) (λ i h. ap not (l.unbeaten i (omega arith) h))))

  -- and there is one
  some_leads : (j : ℕ) → (b : ℕ) × Leads r m 0 (suc j) b
  some_leads zero = (0, leads_itself 0)
  some_leads (suc j) =
      let (b, l) = some_leads j in
      (cond (beats r m (suc j) b) (suc j) b, rw (add-one (suc j)) at (better_leads 0 (suc j) (suc j + 1) b (suc j) _ l (leads_itself (suc j)) refl))

  pub best_leads : 0 < length r → Leads r m 0 (length r) (best r m)
  best_leads some =
      let e : suc (length r - 1) ≡ length r = omega arith in
      let (b, l) = some_leads (length r - 1) in
      let led : Leads r m 0 (length r) b = rw e at l in
      rw (leads_all b led) at led

-- multiplicities that differ elsewhere
leads_elsewhere : (r m now : List ℕ) (a c place : ℕ) → ((j : ℕ) → a ≤ j → j < c → get_or now j 0 ≡ get_or m j 0) → Leads r m a c place → Leads r now a c place
leads_elsewhere r m now a c place same l =
    let here = l.from in
    let there = l.to in
    let alike : (j i : ℕ) → a ≤ j → j < c → a ≤ i → i < c → beats r now j i ≡ beats r m j i =
    λ j i aj jc ai ic. ap₂ (λ (x y : ℕ). ltb (get_or r i 0 * (x + 1)) (get_or r j 0 * (y + 1))) (same j aj jc) (same i ai ic) in
    record {
      from = here;
      to = there;
      unbeaten = λ i h e. alike i place h e here there ∙ l.unbeaten i h e;
      lowest = λ i h e. alike place i here there h (omega arith) ∙ l.lowest i h e;
    }

-- one column more, by its leader
pub column_more : (C : Code) (r m : List ℕ) (i x k y : ℕ) → Leads r m 0 (C.symbols * i) x → LeadsColumn C r m i k → y ≡ cond (beats r m k x) k x
    → Leads r m 0 (C.symbols * (i + 1)) y
column_more C r m i x k y l own e =
    subst (λ (j : ℕ). Leads r m 0 j y) (sym (ap (λ (j : ℕ). C.symbols * j) (add-one i) ∙ mul-suc C.symbols i))
    (better_leads r m 0 (C.symbols * i) (C.symbols * i + C.symbols) x k y l own e)

-- the leader of a column is set, and the others lead theirs
module _ (C : Code) (r m leaders : List ℕ) (full : length leaders ≡ C.positions) (i y : ℕ) (within : i < C.positions) (own : LeadsColumn C r m i y) where
  led_set : (n : ℕ) → ((j : ℕ) → j < n → (j ≡ i → ⊥) → LeadsColumn C r m j (get_or leaders j 0)) → Led C r m n (set leaders i y)
  led_set n others = record {
    full = length-set leaders i y ∙ full;
    leads = λ j h.
        elim (ℕ_discrete j i) [
          | yes same ↦ rw same (subst (LeadsColumn C r m i) (sym (get_or-set_same leaders i y 0 (rw full within))) own)
          | no other ↦ subst (LeadsColumn C r m j) (sym (get_or-set_other leaders i j y 0 other)) (others j h other)
        ];
  }

  -- one column more
  pub led_more : Led C r m i leaders → Led C r m (i + 1) (set leaders i y)
  led_more led = led_set (i + 1) (λ j h other. led.leads j (omega arith))

-- an entry of column i is set, and its leader is looked for again
pub led_again : (C : Code) (r m leaders : List ℕ) (n i b x y : ℕ) → Led C r m n leaders → C.symbols * i ≤ b → b < C.symbols * i + C.symbols → i < C.positions
    → LeadsColumn C r (set m b x) i y → Led C r (set m b x) n (set leaders i y)
led_again C r m leaders n i b x y led from to within own =
    led_set C r (set m b x) leaders led.full i y within own n
    (λ j h other.
    leads_elsewhere r m (set m b x) (C.symbols * j) (C.symbols * j + C.symbols) (get_or leaders j 0)
    (λ t a z. get_or-set_other m b t x 0 (λ e. elsewhere j t other a z e)) (led.leads j h))
  where
    elsewhere : (j t : ℕ) → (j ≡ i → ⊥) → C.symbols * j ≤ t → t < C.symbols * j + C.symbols → t ≡ b → ⊥
    elsewhere j t other a z e =
        let here : C.symbols * j + (t - C.symbols * j) ≡ t = omega arith in
        let there : C.symbols * i + (b - C.symbols * i) ≡ b = omega arith in
        one_column C i j (b - C.symbols * i) (t - C.symbols * j) (omega arith) (omega arith) other (here ∙ e ∙ sym there)
