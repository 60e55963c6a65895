-- Sums taken apart: in two, term by term, without a common factor, in blocks of equal size, without a tail of zeros, and but for one term; and the sum of numbers that fall by the same step.
-- Assumes nothing.
use mathlib.Core.Path.{◌≡◌, sym, ◌∙◌, ap}
use Prim.Native.Nat.{ℕ, zero, suc, ◌+◌, ◌*◌, ◌-◌, ◌≤◌, ◌<◌}
use native.Mathlib.Decide.{dec_lt}
use native.Mathlib.Nat.{not-suc-le-zero, add-zero, add-suc, mul-zero, suc-mul, mul-suc, mul-add, mul_left_comm, mul-le-mul_left}
use native.Mathlib.Omega.{arith}
use Rattle.definitions.proofs.Tools.{sum_zero, sum_one, sum_suc, sum_ext}
use Rattle.definitions.specs.Tools.{sum}

pub sum_append : (m n : ℕ) (f : ℕ → ℕ) → sum (m + n) f ≡ sum m f + sum n (λ j. f (m + j))
sum_append m zero f = let e = sum_zero (λ j. f (m + j)) in rw (add-zero m) (omega arith)
sum_append m (suc n) f =
    let e = sum_append m n f in
    let g = sum_suc n (λ j. f (m + j)) in
    rw (add-suc m n, sum_suc (m + n) f) (omega arith)

-- block after block of q
pub sum_blocks : (q n : ℕ) (f : ℕ → ℕ) → sum (q * n) f ≡ sum n (λ i. sum q (λ b. f (q * i + b)))
sum_blocks q zero f = rw (mul-zero q, sum_zero f) (sym (sum_zero (λ i. sum q (λ b. f (q * i + b)))))
sum_blocks q (suc n) f =
    rw (mul-suc q n)
    (sum_append (q * n) q f ∙ ap (λ (s : ℕ). s + sum q (λ b. f (q * n + b))) (sum_blocks q n f)
    ∙ sym (sum_suc n (λ i. sum q (λ b. f (q * i + b)))))

-- sums of sums
pub sum_both : (n : ℕ) (f g : ℕ → ℕ) → sum n (λ j. f j + g j) ≡ sum n f + sum n g
sum_both zero f g = let a = sum_zero f in let b = sum_zero g in let c = sum_zero (λ j. f j + g j) in omega arith
sum_both (suc n) f g =
    let e = sum_both n f g in
    let a = sum_suc n f in
    let b = sum_suc n g in
    let c = sum_suc n (λ j. f j + g j) in
    omega arith

-- a multiple of every term
pub sum_times : (n q : ℕ) (f : ℕ → ℕ) → sum n (λ j. q * f j) ≡ q * sum n f
sum_times zero q f = rw (sum_zero f, sum_zero (λ j. q * f j)) (omega arith)
sum_times (suc n) q f =
    rw (sum_suc n f, sum_suc n (λ j. q * f j)) (ap (λ (s : ℕ). s + q * f n) (sum_times n q f) ∙ sym (mul-add q (sum n f) (f n)))

pub sum_of_zeros : (n : ℕ) (f : ℕ → ℕ) → ((j : ℕ) → f j ≡ 0) → sum n f ≡ 0
sum_of_zeros zero f z = sum_zero f
sum_of_zeros (suc n) f z = let e = sum_of_zeros n f z in let g = z n in rw (sum_suc n f) (omega arith)

-- what is zero from m on adds nothing
pub sum_tail : (m n : ℕ) (f : ℕ → ℕ) → m ≤ n → ((j : ℕ) → m ≤ j → f j ≡ 0) → sum n f ≡ sum m f
sum_tail m n f h z =
    let e : n ≡ m + (n - m) = omega arith in
    let r = sum_of_zeros (n - m) (λ j. f (m + j)) (λ j. z (m + j) (omega arith)) in
    let a = sum_append m (n - m) f in
    ap (λ (k : ℕ). sum k f) e ∙ a ∙ ap (λ (s : ℕ). sum m f + s) r ∙ add-zero (sum m f)

-- terms that are the same but for one
pub sum_but : (n i : ℕ) (f g : ℕ → ℕ) → i < n → ((j : ℕ) → j < n → (j ≡ i → ⊥) → f j ≡ g j) → sum n f + g i ≡ sum n g + f i
sum_but zero i f g h same = absurd (not-suc-le-zero h)
sum_but (suc n) i f g h same =
    let a = sum_suc n f in
    let b = sum_suc n g in
    elim (dec_lt i n) [
      | yes l ↦
          let r = sum_but n i f g l (λ j k. same j (omega arith)) in
          let last = same n (omega arith) (λ e. let z : ⊥ = omega arith in z) in
          omega arith
      | no m ↦
          let here : n ≡ i = omega arith in
          let front = sum_ext n f g (λ j k. same j (omega arith) (λ e. let z : ⊥ = omega arith in z)) in
          let fi = ap f here in
          let gi = ap g here in
          omega arith
    ]

module _ (v : ℕ) where
  -- v (j + 2) (j + 1) is 2 v (j + 1) more than v (j + 1) j
  pub next_product : (j : ℕ) → v * (suc (suc j) * suc j) ≡ v * (suc j * j) + 2 * (v * suc j)
  next_product j =
      let a = suc-mul (suc j) (suc j) in
      let b = mul-suc (suc j) j in
      let e : suc (suc j) * suc j ≡ suc j * j + 2 * suc j = omega arith in
      let c = mul-add v (suc j * j) (2 * suc j) in
      let d = mul_left_comm v 2 (suc j) in
      rw e (omega arith)

  -- X + (X - v) + .. + (X - v j) is (j + 1) X - v j (j + 1) / 2
  pub falling_sum : (X j : ℕ) → v * j ≤ X → 2 * (suc j * X) ≡ 2 * sum (suc j) (λ (b : ℕ). X - v * b) + v * (suc j * j)
  falling_sum X zero h = rw (sum_one (λ (b : ℕ). X - v * b)) (omega arith)
  falling_sum X (suc j) h =
      let k : v * j ≤ v * suc j = mul-le-mul_left v (omega arith) in
      let r = falling_sum X j (omega arith) in
      let s = sum_suc (suc j) (λ (b : ℕ). X - v * b) in
      let a = suc-mul (suc j) X in
      let p = next_product j in
      omega arith
