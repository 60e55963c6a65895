-- What a plan is for: of all matrices that cost at most as much, none has a greater expected score.
-- Assumes nothing.
use mathlib.Core.List.{List}
use mathlib.Core.Path.{◌≡◌, sym, ◌∙◌, ap, ap₂}
use Prim.Native.Nat.{ℕ, zero, suc, ◌+◌, ◌-◌, ◌*◌, ◌≤◌, ◌<◌}
use native.Mathlib.Decide.{dec_lt, ℕ_discrete}
use native.Mathlib.Nat.{add-zero, add-suc, le_trans, le_of_eq, mul-zero, mul-suc, mul-add, mul_assoc, mul_comm, mul-le-mul_left, le_of_mul-le-mul_left}
use native.Mathlib.Numerals.{add-one}
use native.Mathlib.Omega.{arith}
use borrow.Author.Tests.{ltb-false}
use lib.ListN.{length, get_or, set}
use lib.Seq.{get_or-set_same, get_or-set_other}
use Rattle.definitions.proofs.Sums.{sum_both, sum_times}
use Rattle.definitions.proofs.Tools.{split, sum_zero, sum_le}
use Rattle.definitions.proofs.Weights.{entry_cost_suc}
use Rattle.definitions.proofs.Zeros.{zero_at}
use Rattle.definitions.specs.Planning.{best, stops, plan}
use Rattle.definitions.specs.Tools.{sum}
use Rattle.definitions.specs.Weights.{entry_cost, cost}
use Rattle.plans.proofs.Leads.{best_leads}
use Rattle.plans.proofs.Planning.{raise_grows, raised_within, stays, raises, plan_zero, plan_suc, length_plan}
use Rattle.plans.specs.Laws.{times, expected}

-- the m-th raise of an entry costs m
module _ (c : ℕ → ℕ) (more : (m : ℕ) → c (suc m) ≡ c m + suc m) where
  -- a raise is worth u, and each of its cost a
  module _ (u a : ℕ) where
    -- raises that cost more than they are worth
    above : (p : ℕ) → u ≤ a * suc p → (d : ℕ) → u * (p + d) + a * c p ≤ u * p + a * c (p + d)
    above p h zero = rw (add-zero p) (omega arith)
    above p h (suc d) =
        let before = above p h d in
        let dearer : a * suc p ≤ a * suc (p + d) = mul-le-mul_left a (omega arith) in
        let worth = mul-suc u (p + d) in
        let price = ap (λ (x : ℕ). a * x) (more (p + d)) ∙ mul-add a (c (p + d)) (suc (p + d)) in
        rw (add-suc p d) (omega arith)

    -- and raises that are worth what they cost
    below : (x d : ℕ) → a * (x + d) ≤ u → u * x + a * c (x + d) ≤ u * (x + d) + a * c x
    below x zero h = rw (add-zero x) (omega arith)
    below x (suc d) h =
        let last : a * suc (x + d) ≤ u = rw (add-suc x d) at h in
        let cheaper : a * (x + d) ≤ a * suc (x + d) = mul-le-mul_left a (omega arith) in
        let before = below x d (le_trans cheaper last) in
        let worth = mul-suc u (x + d) in
        let price = ap (λ (y : ℕ). a * y) (more (x + d)) ∙ mul-add a (c (x + d)) (suc (x + d)) in
        rw (add-suc x d) (omega arith)

    -- so an entry that has all of these, and none of those, is worth most
    worth_most : (p : ℕ) → a * p ≤ u → u ≤ a * suc p → (x : ℕ) → u * x + a * c p ≤ u * p + a * c x
    worth_most p low high x =
        elim (dec_lt x p) [
          | yes h ↦
              let e : x + (p - x) ≡ p = omega arith in
              rw e at (below x (p - x) (rw e low))
          | no n ↦
              let e : p + (x - p) ≡ x = omega arith in
              rw e at (above p high (x - p))
        ]

  -- of all places together
  module _ (n a b : ℕ) (t : ℕ → ℕ) where
    taken_apart : (p x : ℕ → ℕ) → sum n (λ j. b * (t j * x j) + a * c (p j)) ≡ b * sum n (λ j. t j * x j) + a * sum n (λ j. c (p j))
    taken_apart p x =
        sum_both n (λ j. b * (t j * x j)) (λ j. a * c (p j)) ∙ ap₂ ◌+◌ (sum_times n b (λ j. t j * x j)) (sum_times n a (λ j. c (p j)))

    all_worth_most : (p x : ℕ → ℕ) → ((j : ℕ) → j < n → a * p j ≤ b * t j) → ((j : ℕ) → j < n → b * t j ≤ a * suc (p j))
        → b * sum n (λ j. t j * x j) + a * sum n (λ j. c (p j)) ≤ b * sum n (λ j. t j * p j) + a * sum n (λ j. c (x j))
    all_worth_most p x low high =
        rw (sym (taken_apart p x), sym (taken_apart x p))
        (sum_le n (λ j. b * (t j * x j) + a * c (p j)) (λ j. b * (t j * p j) + a * c (x j))
        (λ j h. rw (sym (mul_assoc b (t j) (x j)), sym (mul_assoc b (t j) (p j))) (worth_most (b * t j) a (p j) (low j h) (high j h) (x j))))

left_over : (x y z w : ℕ) → x + z ≤ y + w → w ≤ z → x ≤ y
left_over x y z w h l = omega arith

module _ (r : List ℕ) where
  -- no raise that is next has a larger share than one that was done
  abbrev Ranked : List ℕ → Type 0
  Ranked m = (i j : ℕ) → i < length r → j < length r → get_or r i 0 * get_or m j 0 ≤ get_or r j 0 * (get_or m i 0 + 1)

  pub unbeaten : (m : List ℕ) (i : ℕ) → i < length r → times r m i (best r m) ≤ times r m (best r m) i
  unbeaten m i h =
      let b = best r m in
      ltb-false (times r m b i) (times r m i b) ((best_leads r m (omega arith)).unbeaten i (omega arith) h)

  raised_ranked : (m : List ℕ) → length m ≡ length r → Ranked m → best r m < length r → Ranked (set m (best r m) (get_or m (best r m) 0 + 1))
  raised_ranked m full ranked inside i j hi hj =
      let b = best r m in
      let x = get_or m b 0 + 1 in
      let here = get_or-set_same m b x 0 (rw full inside) in
      let grown = raise_grows m b (rw full inside) i in
      let more : get_or r j 0 * (get_or m i 0 + 1) ≤ get_or r j 0 * (get_or (set m b x) i 0 + 1) = mul-le-mul_left (get_or r j 0) (omega arith) in
      elim (ℕ_discrete j b) [
        | yes same ↦ le_trans (rw (same, here) (unbeaten m i hi)) more
        | no other ↦ le_trans (rw (get_or-set_other m b j x 0 other) (ranked i j hi hj)) more
      ]

  plan_ranked : (s : ℕ) → Ranked (plan r s)
  plan_ranked zero = λ i j _ _. rw (plan_zero r, zero_at (length r) j, mul-zero (get_or r i 0)) (omega arith)
  plan_ranked (suc s) =
      rw (plan_suc r s)
      (split (stops r (plan r s)) (λ e. rw (stays r (plan r s) e) (plan_ranked s))
      (λ e. rw (raises r (plan r s) e) (raised_ranked (plan r s) (length_plan r s) (plan_ranked s) (raised_within r (plan r s) e).0)))

  -- "Algorithm 1 is an optimal algorithm" (004), for what a matrix costs
  pub plan_expects_most : (s : ℕ) (m : List ℕ) → length m ≡ length r → cost m ≤ cost (plan r s) → expected r m ≤ expected r (plan r s)
  plan_expects_most s m full paid =
      elim (dec_lt 0 (length r)) [
        | yes some ↦ le_of_mul-le-mul_left (fewer some) (omega arith)
        | no none ↦
            let e : length r ≡ 0 = omega arith in
            rw (e, sum_zero (λ j. get_or r j 0 * get_or m j 0)) (omega arith)
      ]
    where
      p : List ℕ
      p = plan r s

      fewer : 0 < length r → (get_or p (best r p) 0 + 1) * expected r m ≤ (get_or p (best r p) 0 + 1) * expected r p
      fewer some =
          let i = best r p in
          let a = get_or r i 0 in
          let b = get_or p i 0 + 1 in
          let inside = (best_leads r p some).to in
          let all =
          all_worth_most entry_cost entry_cost_suc (length r) a b (λ j. get_or r j 0) (λ j. get_or p j 0) (λ j. get_or m j 0)
          (λ j h. le_trans (plan_ranked s i j inside h) (le_of_eq (mul_comm (get_or r j 0) b)))
          (λ j h. le_trans (le_of_eq (mul_comm b (get_or r j 0))) (le_trans (unbeaten p j h) (le_of_eq (ap (λ (x : ℕ). a * x) (add-one (get_or p j 0)))))) in
          let price : a * sum (length r) (λ j. entry_cost (get_or m j 0)) ≤ a * sum (length r) (λ j. entry_cost (get_or p j 0)) =
          mul-le-mul_left a (rw (full, length_plan r s) at paid) in
          left_over _ _ _ _ all price
