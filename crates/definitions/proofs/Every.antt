-- Every number below n passes a test: one number more, and one that does not pass.
-- Assumes nothing.
use mathlib.Core.Bool.{Bool, true, false, true≢false}
use mathlib.Core.Path.{◌≡◌, refl, sym, ◌∙◌, ap}
use Prim.Native.Nat.{ℕ, zero, suc, ◌+◌, ◌-◌, ◌≤◌, ◌<◌}
use native.Mathlib.Decide.{dec_lt}
use native.Mathlib.Nat.{not-suc-le-zero}
use native.Mathlib.Numerals.{add-one}
use native.Mathlib.Omega.{arith}
use Rattle.definitions.proofs.Tools.{both, split}
use Rattle.definitions.specs.Tools.{every}

module _ (test : ℕ → Bool) where
  pub every_none : every 0 test ≡ true
  unfolding every
  every_none = refl

  pub every_more : (n : ℕ) → every n test ≡ true → test n ≡ true → every (n + 1) test ≡ true
  unfolding every
  every_more n e t = rw (add-one n, e, t) refl

  -- each of them does
  pub every_at : (n i : ℕ) → every n test ≡ true → i < n → test i ≡ true
  unfolding every
  every_at zero i e h = absurd (not-suc-le-zero h)
  every_at (suc n) i e h =
      let b = both (every n test) (test n) e in
      elim (dec_lt i n) [
        | yes l ↦ every_at n i b.0 l
        | no g ↦ (let same : n ≡ i = omega arith in ap test (sym same) ∙ b.1)
      ]

  -- if each does they all do
  pub every_of : (n : ℕ) → ((i : ℕ) → i < n → test i ≡ true) → every n test ≡ true
  every_of zero h = every_none
  every_of (suc n) h = ap (λ (m : ℕ). every m test) (sym (add-one n)) ∙ every_more n (every_of n (λ i l. h i (omega arith))) (h n (omega arith))

  -- going down: each from i on does, and the one before it
  pub down_more : (i j : ℕ) → 1 ≤ i → ((t : ℕ) → i ≤ t → t < j → test t ≡ true) → test (i - 1) ≡ true → (t : ℕ) → i - 1 ≤ t → t < j → test t ≡ true
  down_more i j h above e t from to =
      elim (dec_lt t i) [
        | yes l ↦ (let here : i - 1 ≡ t = omega arith in ap test (sym here) ∙ e)
        | no n ↦ above t (omega arith) to
      ]

  -- one does not
  pub every_but : (n i : ℕ) → i < n → test i ≡ false → every n test ≡ false
  every_but n i h f = split (every n test) (λ t. absurd (true≢false (sym (every_at n i t h) ∙ f))) (λ e. e)

-- two tests that agree on all of them
pub every_same : (test other : ℕ → Bool) (n : ℕ) → ((i : ℕ) → i < n → test i ≡ other i) → every n test ≡ every n other
every_same test other n same =
    split (every n other) (λ t. every_of test n (λ i h. same i h ∙ every_at other n i t h) ∙ sym t)
    (λ f. split (every n test) (λ t. absurd (true≢false (sym (every_of other n (λ i h. sym (same i h) ∙ every_at test n i t h)) ∙ f))) (λ g. g ∙ sym f))
