-- The rows below the pivot that are not zero in its column, listed, and the loop over them in one block of columns.
-- Assumes nothing.
use mathlib.Core.List.{List, []}
use mathlib.Core.Logic.{◌≢◌}
use mathlib.Core.Path.{◌≡◌, refl, sym, ◌∙◌, ap, subst}
use Prim.Native.Nat.{ℕ, suc, ◌+◌, ◌≤◌, ◌<◌}
use native.Mathlib.Decide.{ℕ_discrete}
use native.Mathlib.Numerals.{add-one}
use native.Mathlib.Omega.{arith}
use lib.ListN.{length, get_or, set}
use lib.Seq.{get_or-set_same, get_or-set_other}
use Rattle.algebra.specs.FieldOf.{FieldOf}
use Rattle.algebra.specs.Grid.{entry_of, Patched}
use Rattle.definitions.specs.Field.{Code, numbers}
use Rattle.linear.proofs.Symbols.{plus_nothing}
use Rattle.linear.specs.Columns.{Between, Lowered, Among, Targets, Listed, Done}

-- none is listed yet
pub listed_none : (j : ℕ) (x places c : ℕ → ℕ) → Listed (suc j) j 0 x places c
listed_none j x places c = record {
  behind = λ i h. let z : ⊥ = omega arith in absurd z;
  within = λ i h. let z : ⊥ = omega arith in absurd z;
  factor = λ i h. let z : ⊥ = omega arith in absurd z;
  nonzero = λ i h. let z : ⊥ = omega arith in absurd z;
  apart = λ i l g h. let z : ⊥ = omega arith in absurd z;
  all = λ t l h n. let z : ⊥ = omega arith in absurd z;
}

module _ (t j n : ℕ) (x places c others d : ℕ → ℕ) (ok : Listed t j n x places c) (same : (i : ℕ) → i < n → others i ≡ places i)
    (equal : (i : ℕ) → i < n → d i ≡ c i) where
  -- of the places listed
  among_same : (s : ℕ) → Among n places s → (l : ℕ) → n ≤ l → Among l others s
  among_same s a l h = record { at = a.at; low = let g = a.low in omega arith; is = same a.at a.low ∙ a.is }

  -- row t is zero there: whatever was written is not counted
  pub listed_zero : x t ≡ 0 → Listed (suc t) j n x others d
  listed_zero z = record {
    behind = λ i h. let e = same i h in let f = ok.behind i h in omega arith;
    within = λ i h. let e = same i h in let f = ok.within i h in omega arith;
    factor = λ i h. equal i h ∙ ok.factor i h ∙ ap x (sym (same i h));
    nonzero = λ i h f. ok.nonzero i h (ap x (sym (same i h)) ∙ f);
    apart = λ i l g h f. ok.apart i l g h (sym (same i (omega arith)) ∙ f ∙ same l h);
    all = λ s l h f. elim (ℕ_discrete s t) [
      | yes e ↦ absurd (f (ap x e ∙ z))
      | no e ↦ among_same s (ok.all s l (omega arith) f) n (omega arith)
    ];
  }

  -- row t is not: it is counted
  pub listed_more : j < t → x t ≢ 0 → others n ≡ t → d n ≡ x t → Listed (suc t) j (suc n) x others d
  listed_more low nz here its = record {
    behind = λ i h. elim (ℕ_discrete i n) [
      | yes e ↦ subst (λ (s : ℕ). j < s) (sym (ap others e ∙ here)) low
      | no e ↦ subst (λ (s : ℕ). j < s) (sym (same i (omega arith))) (ok.behind i (omega arith))
    ];
    within = λ i h. elim (ℕ_discrete i n) [
      | yes e ↦ let f = ap others e ∙ here in omega arith
      | no e ↦ let f = same i (omega arith) in let g = ok.within i (omega arith) in omega arith
    ];
    factor = λ i h. elim (ℕ_discrete i n) [
      | yes e ↦ ap d e ∙ its ∙ ap x (sym (ap others e ∙ here))
      | no e ↦ equal i (omega arith) ∙ ok.factor i (omega arith) ∙ ap x (sym (same i (omega arith)))
    ];
    nonzero = λ i h f. elim (ℕ_discrete i n) [
      | yes e ↦ nz (ap x (sym (ap others e ∙ here)) ∙ f)
      | no e ↦ ok.nonzero i (omega arith) (ap x (sym (same i (omega arith))) ∙ f)
    ];
    apart = λ i l g h f. elim (ℕ_discrete l n) [
      | yes e ↦ let a = same i (omega arith) in let b = ok.within i (omega arith) in let k = ap others e ∙ here in let z : ⊥ = omega arith in z
      | no e ↦ ok.apart i l g (omega arith) (sym (same i (omega arith)) ∙ f ∙ same l (omega arith))
    ];
    all = λ s l h f. elim (ℕ_discrete s t) [
      | yes e ↦ record { at = n; low = omega arith; is = here ∙ sym e }
      | no e ↦ among_same s (ok.all s l (omega arith) f) (suc n) (omega arith)
    ];
  }

-- what is listed are different rows
pub listed_targets : (R L j n : ℕ) (x places c : ℕ → ℕ) → R ≤ L → Listed R j n x places c → Targets L j n places
listed_targets R L j n x places c h l = record { behind = l.behind; within = λ i g. let e = l.within i g in omega arith; apart = l.apart }

-- ---- the rows listed, in one block

module _ (C : Code) (from to j : ℕ) (places c : ℕ → ℕ) where
  -- none is done yet
  pub done_none : (m : ℕ → ℕ → ℕ) → Done C from to j 0 places c m m
  done_none m = record { done = λ i h. let z : ⊥ = omega arith in absurd z; rest = λ t n k. refl; before = λ k h t. refl; after = λ k h t. refl }

  -- one more is done
  done_more : (R n total : ℕ) (o m b : ℕ → ℕ → ℕ) → Targets R j total places → n < total → Done C from to j n places c o m
      → ((k : ℕ) → from ≤ k → k < to → b (places n) k ≡ C.plus (m (places n) k) (C.times (c n) (o j k)))
      → ((k : ℕ) → k < from → b (places n) k ≡ m (places n) k) → ((k : ℕ) → to ≤ k → b (places n) k ≡ m (places n) k)
      → ((t : ℕ) → t ≢ places n → (k : ℕ) → b t k ≡ m t k) → Done C from to j (suc n) places c o b
  done_more R n total o m b targets h d here front back others = record {
    done = λ i l k g f. elim (ℕ_discrete i n) [
      | yes e ↦
          ap (λ (s : ℕ). b (places s) k) e ∙ here k g f
          ∙ ap (λ (y : ℕ). C.plus y (C.times (c n) (o j k))) (d.rest (places n) fresh k)
          ∙ ap (λ (s : ℕ). C.plus (o (places s) k) (C.times (c s) (o j k))) (sym e)
      | no e ↦ others (places i) (targets.apart i n (omega arith) h) k ∙ d.done i (omega arith) k g f
    ];
    rest = λ t n k. others t (λ e. n (record { at = _; low = omega arith; is = sym e })) k ∙ d.rest t (λ a. n (earlier t a)) k;
    before = λ k l t. elim (ℕ_discrete t (places n)) [
      | yes e ↦ ap (λ (s : ℕ). b s k) e ∙ front k l ∙ ap (λ (s : ℕ). m s k) (sym e) ∙ d.before k l t
      | no e ↦ others t e k ∙ d.before k l t
    ];
    after = λ k l t. elim (ℕ_discrete t (places n)) [
      | yes e ↦ ap (λ (s : ℕ). b s k) e ∙ back k l ∙ ap (λ (s : ℕ). m s k) (sym e) ∙ d.after k l t
      | no e ↦ others t e k ∙ d.after k l t
    ];
  }
    where
      fresh : Among n places (places n) → ⊥
      fresh a = targets.apart a.at n a.low h a.is

      earlier : (t : ℕ) → Among n places t → Among (suc n) places t
      earlier t a = record { at = a.at; low = let g = a.low in omega arith; is = a.is }

  -- with all that are listed the block is lowered
  pub done_lowered : FieldOf C → (R n : ℕ) (x : ℕ → ℕ) (m b : ℕ → ℕ → ℕ) → ((t k : ℕ) → m t k < C.symbols) → Listed R j n x places c
      → Done C from to j n places c m b → Between (Lowered (numbers C) R j x) from to m b
  done_lowered F R n x m b small listed d = record {
    inside = λ k low high. record {
      below = λ t l h. elim (ℕ_discrete (x t) 0) [
        | yes e ↦
            d.rest t (λ a. listed.nonzero a.at a.low (ap x a.is ∙ e)) k ∙ plus_nothing C F (m t k) (m j k) (small t k) (small j k)
            ∙ ap (λ (y : ℕ). C.plus (m t k) (C.times y (m j k))) (sym e)
        | no e ↦ at_place k low high t (listed.all t l h e)
      ];
      above = λ t l. d.rest t (λ a. let f = listed.behind a.at a.low in let g = a.is in let z : ⊥ = omega arith in z) k;
      beyond = λ t l. d.rest t (λ a. let f = listed.within a.at a.low in let g = a.is in let z : ⊥ = omega arith in z) k;
    };
    before = d.before;
    after = d.after;
  }
    where
      at_place : (k : ℕ) → from ≤ k → k < to → (t : ℕ) → Among n places t → b t k ≡ C.plus (m t k) (C.times (x t) (m j k))
      at_place k low high t a =
          ap (λ (s : ℕ). b s k) (sym a.is) ∙ d.done a.at a.low k low high
          ∙ ap (λ (y : ℕ). C.plus (m (places a.at) k) (C.times y (m j k))) (listed.factor a.at a.low)
          ∙ ap (λ (s : ℕ). C.plus (m s k) (C.times (x s) (m j k))) a.is

-- one more of the rows listed is lowered in one block
pub done_row : (C : Code) (from to j : ℕ) (places c : ℕ → ℕ) (R n total : ℕ) (o m : List (List ℕ)) (t : ℕ) (row : List ℕ)
    → Targets R j total places → n < total → Done C from to j n places c (entry_of o) (entry_of m) → t ≡ places n → t < length m
    → Patched from to (λ k. C.plus (entry_of m t k) (C.times (c n) (entry_of o j k))) (entry_of m t) (λ k. get_or row k 0)
    → Done C from to j (n + 1) places c (entry_of o) (entry_of (set m t row))
done_row C from to j places c R n total o m t row targets h d is room p =
    subst (λ (l : ℕ). Done C from to j l places c (entry_of o) (entry_of (set m t row))) (sym (add-one n))
    (done_more C from to j places c R n total (entry_of o) (entry_of m) (entry_of (set m t row)) targets h d
    (λ k l g. at_row k ∙ p.inside k l g ∙ ap (λ (s : ℕ). C.plus (entry_of m s k) (C.times (c n) (entry_of o j k))) is)
    (λ k l. at_row k ∙ p.before k l ∙ ap (λ (s : ℕ). entry_of m s k) is)
    (λ k l. at_row k ∙ p.after k l ∙ ap (λ (s : ℕ). entry_of m s k) is)
    (λ s f k. ap (λ (y : List ℕ). get_or y k 0) (get_or-set_other m t s row [] (λ e. f (e ∙ is)))))
  where
    at_row : (k : ℕ) → entry_of (set m t row) (places n) k ≡ get_or row k 0
    at_row k = ap (λ (s : ℕ). entry_of (set m t row) s k) (sym is) ∙ ap (λ (y : List ℕ). get_or y k 0) (get_or-set_same m t row [] room)
