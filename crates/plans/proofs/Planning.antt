-- The laws of a plan: what a step leaves, where it stays, the steps done, its entries, and what they cost.
-- Assumes nothing.
use mathlib.Core.Bool.{true, false, true≢false}
use mathlib.Core.List.{List}
use mathlib.Core.Path.{◌≡◌, refl, sym, ◌∙◌, ap}
use Prim.Native.Nat.{ℕ, zero, suc, ◌+◌, ◌*◌, ◌≤◌, ◌<◌}
use native.Mathlib.Decide.{dec_lt, ℕ_discrete}
use native.Mathlib.Nat.{add-zero, add-suc, le_refl, le_trans, mul-le-mul_left}
use native.Mathlib.Omega.{arith}
use borrow.Author.Tests.{eqb-true, eqb-false, eq-eqb}
use lib.Dec.{eqb}
use lib.ListN.{length, get_or, set, replicate, length-replicate, length-set, get_or-eq_default}
use lib.Seq.{ext_get_or, get_or-set_same, get_or-set_other}
use Rattle.definitions.proofs.Every.{every_at, every_of}
use Rattle.definitions.proofs.Sums.{sum_but, sum_of_zeros, sum_times}
use Rattle.definitions.proofs.Tools.{neither, split, sum_le}
use Rattle.definitions.proofs.Zeros.{zero_at}
use Rattle.definitions.specs.Limits.{greatest_level}
use Rattle.definitions.specs.Planning.{best, stops, step, plan, steps_done, is_plan}
use Rattle.definitions.specs.Tools.{sum}
use Rattle.definitions.specs.Weights.{entry_cost, cost}

-- an entry of at most 5 costs at most three times itself
entry_cost_three : (m : ℕ) → m ≤ greatest_level → entry_cost m ≤ 3 * m
entry_cost_three m h = let six : m * (m + 1) ≤ m * 6 = mul-le-mul_left m (omega arith) in omega arith

-- a raise lowers no entry
pub raise_grows : (m : List ℕ) (b : ℕ) → b < length m → (j : ℕ) → get_or m j 0 ≤ get_or (set m b (get_or m b 0 + 1)) j 0
raise_grows m b inside j =
    elim (ℕ_discrete j b) [
      | yes same ↦ rw same (rw (get_or-set_same m b (get_or m b 0 + 1) 0 inside) (omega arith))
      | no other ↦ rw (get_or-set_other m b j (get_or m b 0 + 1) 0 other) (le_refl (get_or m j 0))
    ]

module _ (r : List ℕ) where
  -- a best entry that does not stop the plan is one of the matrix, and does not stand at 5
  pub raised_within : (m : List ℕ) → stops r m ≡ false → (best r m < length r) × (get_or m (best r m) 0 ≡ greatest_level → ⊥)
  raised_within m e =
      let b = best r m in
      let n = neither (eqb (get_or r b 0) 0) (eqb (get_or m b 0) greatest_level) e in (
        elim (dec_lt b (length r)) [
          | yes l ↦ l
          | no g ↦ absurd (eqb-false (get_or r b 0) 0 n.0 (get_or-eq_default r 0 (omega arith)))
        ],
        eqb-false (get_or m b 0) greatest_level n.1,
      )

  -- ---- one step

  pub stays : (m : List ℕ) → stops r m ≡ true → step r m ≡ m
  stays m e = rw e

  pub raises : (m : List ℕ) → stops r m ≡ false → step r m ≡ set m (best r m) (get_or m (best r m) 0 + 1)
  raises m e = rw e

  step_grows : (m : List ℕ) → length m ≡ length r → (j : ℕ) → get_or m j 0 ≤ get_or (step r m) j 0
  step_grows m full j =
      split (stops r m) (λ e. rw (stays m e) (le_refl (get_or m j 0)))
      (λ e. rw (raises m e) (raise_grows m (best r m) (rw full (raised_within m e).0) j))

  length_step : (m : List ℕ) → length (step r m) ≡ length m
  length_step m =
      split (stops r m) (λ e. ap length (stays m e)) (λ e. ap length (raises m e) ∙ length-set m (best r m) (get_or m (best r m) 0 + 1))

  step_low : (m : List ℕ) → ((j : ℕ) → get_or m j 0 ≤ greatest_level) → length m ≡ length r → (j : ℕ) → get_or (step r m) j 0 ≤ greatest_level
  step_low m low full j =
      split (stops r m) (λ e. rw (stays m e) (low j))
      (λ e.
      let b = best r m in
      let w = raised_within m e in
      elim (ℕ_discrete j b) [
        | yes same ↦
            let at = ap (λ (i : ℕ). get_or (set m b (get_or m b 0 + 1)) i 0) same ∙ get_or-set_same m b (get_or m b 0 + 1) 0 (rw full w.0) in
            let h = low b in
            let n : get_or m b 0 ≡ greatest_level → ⊥ = w.1 in
            rw (raises m e) (rw at (elim (dec_lt (get_or m b 0) greatest_level) [ yes l ↦ omega arith | no g ↦ absurd (n (omega arith)) ]))
        | no other ↦ rw (raises m e) (rw (get_or-set_other m b j (get_or m b 0 + 1) 0 other) (low j))
      ])

  -- ---- the plan of s steps

  pub plan_zero : plan r 0 ≡ replicate (length r) 0
  unfolding plan
  plan_zero = refl

  pub plan_suc : (s : ℕ) → plan r (suc s) ≡ step r (plan r s)
  unfolding plan
  plan_suc s = refl

  pub length_plan : (s : ℕ) → length (plan r s) ≡ length r
  length_plan zero = ap length plan_zero ∙ length-replicate (length r) 0
  length_plan (suc s) = ap length (plan_suc s) ∙ length_step (plan r s) ∙ length_plan s

  pub plan_low : (s j : ℕ) → get_or (plan r s) j 0 ≤ greatest_level
  plan_low zero j = rw plan_zero (rw (zero_at (length r) j) (omega arith))
  plan_low (suc s) j = rw (plan_suc s) (step_low (plan r s) (plan_low s) (length_plan s) j)

  -- more steps lower no entry
  pub plan_grows : (s t j : ℕ) → get_or (plan r s) j 0 ≤ get_or (plan r (s + t)) j 0
  plan_grows s zero j = rw (add-zero s) (le_refl (get_or (plan r s) j 0))
  plan_grows s (suc t) j =
      rw (add-suc s t, plan_suc (s + t)) (le_trans (plan_grows s t j) (step_grows (plan r (s + t)) (length_plan (s + t)) j))

  -- and where it stops it stays
  pub plan_stays : (s : ℕ) → stops r (plan r s) ≡ true → (t : ℕ) → plan r (s + t) ≡ plan r s
  plan_stays s e zero = ap (plan r) (add-zero s)
  plan_stays s e (suc t) =
      let same = plan_stays s e t in
      ap (plan r) (add-suc s t) ∙ plan_suc (s + t) ∙ ap (step r) same ∙ stays (plan r s) e

  -- ---- the steps done

  pub done_zero : steps_done r 0 ≡ 0
  unfolding steps_done
  done_zero = refl

  pub done_stays : (s : ℕ) → stops r (plan r s) ≡ true → steps_done r (suc s) ≡ steps_done r s
  unfolding steps_done
  done_stays s e = rw e

  pub done_more : (s : ℕ) → stops r (plan r s) ≡ false → steps_done r (suc s) ≡ suc (steps_done r s)
  unfolding steps_done
  done_more s e = rw e

  -- all s steps, where the plan has not stopped
  pub all_done : (s : ℕ) → stops r (plan r s) ≡ false → steps_done r s ≡ s
  all_done zero e = done_zero
  all_done (suc s) e =
      split (stops r (plan r s))
      (λ stopped. absurd (true≢false (sym stopped ∙ ap (stops r) (sym (plan_suc s ∙ stays (plan r s) stopped)) ∙ e)))
      (λ goes. done_more s goes ∙ ap suc (all_done s goes))

  pub done_within : (s : ℕ) → steps_done r s ≤ s
  done_within zero = rw done_zero (omega arith)
  done_within (suc s) =
      let h = done_within s in
      split (stops r (plan r s)) (λ e. rw (done_stays s e) (omega arith)) (λ e. rw (done_more s e) (omega arith))

  -- no more than those where it stopped
  pub done_after : (s : ℕ) → stops r (plan r s) ≡ true → (t : ℕ) → steps_done r (s + t) ≡ steps_done r s
  done_after s e zero = ap (steps_done r) (add-zero s)
  done_after s e (suc t) =
      ap (steps_done r) (add-suc s t) ∙ done_stays (s + t) (ap (stops r) (plan_stays s e t) ∙ e) ∙ done_after s e t

  -- "The steps done are reported and equal the sum of all entries"
  pub steps_are_sum : (s : ℕ) → steps_done r s ≡ sum (length r) (λ j. get_or (plan r s) j 0)
  steps_are_sum zero =
      done_zero ∙ sym (sum_of_zeros (length r) (λ j. get_or (plan r 0) j 0) (λ j. ap (λ (m : List ℕ). get_or m j 0) plan_zero ∙ zero_at (length r) j))
  steps_are_sum (suc s) =
      split (stops r (plan r s))
      (λ e. done_stays s e ∙ steps_are_sum s ∙ ap (λ (m : List ℕ). sum (length r) (λ j. get_or m j 0)) (sym (plan_suc s ∙ stays (plan r s) e)))
      (λ e.
      let m = plan r s in
      let b = best r m in
      let x = get_or m b 0 + 1 in
      let inside = (raised_within m e).0 in
      let moved = sum_but (length r) b (λ j. get_or (set m b x) j 0) (λ j. get_or m j 0) inside (λ j _ n. get_or-set_other m b j x 0 n) in
      let here = get_or-set_same m b x 0 (rw (length_plan s) inside) in
      let before = steps_are_sum s in
      let more : sum (length r) (λ j. get_or (set m b x) j 0) ≡ suc (sum (length r) (λ j. get_or m j 0)) = omega arith in
      done_more s e ∙ ap suc before ∙ sym more ∙ ap (λ (l : List ℕ). sum (length r) (λ j. get_or l j 0)) (sym (plan_suc s ∙ raises m e)))

  pub plan_cost : (s : ℕ) → cost (plan r s) ≤ 3 * steps_done r s
  plan_cost s =
      let f : ℕ → ℕ = λ j. get_or (plan r s) j 0 in
      let each = sum_le (length r) (λ j. entry_cost (f j)) (λ j. 3 * f j) (λ j _. entry_cost_three (f j) (plan_low s j)) in
      let three = sum_times (length r) 3 f in
      let done = steps_are_sum s in
      rw (length_plan s) (omega arith)

  -- ---- a plan from outside

  pub is_plan_lem : (s : ℕ) → is_plan r s (plan r s) ≡ true
  is_plan_lem s = every_of (λ j. eqb (get_or (plan r s) j 0) (get_or (plan r s) j 0)) (length r) (λ j _. eq-eqb (get_or (plan r s) j 0) (get_or (plan r s) j 0) refl)

  pub plan_is : (s : ℕ) (m : List ℕ) → length m ≡ length r → is_plan r s m ≡ true → m ≡ plan r s
  plan_is s m full e =
      ext_get_or 0 m (plan r s) (full ∙ sym (length_plan s))
      (λ j h. eqb-true (get_or m j 0) (get_or (plan r s) j 0) (every_at (λ j. eqb (get_or m j 0) (get_or (plan r s) j 0)) (length r) j e (rw full at h)))
