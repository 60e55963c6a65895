-- Lucas modulo 2: a binomial coefficient is odd exactly where its upper number has every bit of the lower one.
-- Assumes nothing.
use mathlib.Core.Bool.{Bool, false}
use mathlib.Core.Path.{◌≡◌, refl, sym, ◌∙◌, ap, ap₂}
use Prim.Native.Nat.{ℕ, zero, suc, ◌+◌, ◌*◌, ◌/◌, ◌%◌, min}
use native.Mathlib.Decide.{ℕ_discrete}
use native.Mathlib.Omega.{arith}
use borrow.Author.Tests.{eq-eqb, ne_eqb}
use lib.Arith.{bin_ind}
use lib.Bits.{bit_and, and_step}
use lib.Dec.{eqb}
use Rattle.definitions.specs.Polynomial.{binomial}
use Rattle.algebra.proofs.Binomials.{binomial_zero, binomial_suc, binomial_over}

-- e has every bit of s
abbrev pub within : ℕ → ℕ → Bool
within e s = eqb (bit_and e s) s

-- twice a number
abbrev twice : ℕ → ℕ
twice zero = zero
twice (suc n) = suc (suc (twice n))

-- it is the number times 2
twice_is : (n : ℕ) → twice n ≡ n * 2
twice_is zero = refl
twice_is (suc n) = let h = twice_is n in omega arith

-- nothing else can be taken of nothing
binomial_none : (k : ℕ) → binomial zero (suc k) ≡ 0
binomial_none k = binomial_over zero (suc k) (omega arith)

-- parities add up
sum_parity : (x y u v : ℕ) → x % 2 ≡ u % 2 → y % 2 ≡ v % 2 → (x + y) % 2 ≡ (u + v) % 2
sum_parity x y u v h k = omega arith

-- the rule of an even upper number
abbrev Even : ℕ → Type 0
Even a = (b : ℕ) → (binomial (twice a) (twice b) % 2 ≡ binomial a b % 2) × (binomial (twice a) (suc (twice b)) % 2 ≡ 0)

-- the next upper number is odd: an odd lower number
odd_odd : (a : ℕ) → Even a → (b : ℕ) → binomial (suc (twice a)) (suc (twice b)) % 2 ≡ binomial a b % 2
odd_odd a h b = let p = binomial_suc (twice a) (twice b) in let x = (h b).0 in let y = (h b).1 in omega arith

-- an even one
odd_even : (a : ℕ) → Even a → (b : ℕ) → binomial (suc (twice a)) (twice b) % 2 ≡ binomial a b % 2
odd_even a h zero = let x = binomial_zero a in let y = binomial_zero (suc (twice a)) in omega arith
odd_even a h (suc b) = let p = binomial_suc (twice a) (suc (twice b)) in let x = (h (suc b)).0 in let y = (h b).1 in omega arith

-- the next even upper number: an odd lower number
even_odd : (a : ℕ) → Even a → (b : ℕ) → binomial (twice (suc a)) (suc (twice b)) % 2 ≡ 0
even_odd a h b = let p = binomial_suc (suc (twice a)) (twice b) in let x = odd_even a h b in let y = odd_odd a h b in omega arith

-- an even one
even_even : (a : ℕ) → Even a → (b : ℕ) → binomial (twice (suc a)) (twice b) % 2 ≡ binomial (suc a) b % 2
even_even a h zero = let x = binomial_zero (suc a) in let y = binomial_zero (twice (suc a)) in omega arith
even_even a h (suc b) =
    ap (λ (n : ℕ). n % 2) (binomial_suc (suc (twice a)) (suc (twice b)))
    ∙ sum_parity (binomial (suc (twice a)) (suc (twice b))) (binomial (suc (twice a)) (suc (suc (twice b)))) (binomial a b) (binomial a (suc b)) (odd_odd a h b)
    (odd_even a h (suc b))
    ∙ ap (λ (n : ℕ). n % 2) (sym (binomial_suc a b))

-- so of every even upper number
evens : (a : ℕ) → Even a
evens zero zero = (refl, let x = binomial_none zero in omega arith)
evens zero (suc b) =
    let x = binomial_none b in let y = binomial_none (suc (twice b)) in let z = binomial_none (suc (suc (twice b))) in (omega arith, omega arith)
evens (suc a) b = (even_even a (evens a) b, even_odd a (evens a) b)

-- an even upper number and an odd lower one: the binomial is even
unlike : (e s : ℕ) → e % 2 ≡ 0 → s % 2 ≡ 1 → binomial e s % 2 ≡ 0
unlike e s he hs =
    let t = twice_is (e / 2) in let u = twice_is (s / 2) in
    let x : e ≡ twice (e / 2) = omega arith in
    let y : s ≡ suc (twice (s / 2)) = omega arith in
    ap₂ (λ (n k : ℕ). binomial n k % 2) x y ∙ (evens (e / 2) (s / 2)).1

-- else it is as odd as that of the halves
halved_even : (e s : ℕ) → e % 2 ≡ 0 → s % 2 ≡ 0 → binomial e s % 2 ≡ binomial (e / 2) (s / 2) % 2
halved_even e s he hs =
    let t = twice_is (e / 2) in let u = twice_is (s / 2) in
    let x : e ≡ twice (e / 2) = omega arith in
    let y : s ≡ twice (s / 2) = omega arith in
    ap₂ (λ (n k : ℕ). binomial n k % 2) x y ∙ (evens (e / 2) (s / 2)).0

-- of an odd upper number
halved_odd : (e s : ℕ) → e % 2 ≡ 1 → binomial e s % 2 ≡ binomial (e / 2) (s / 2) % 2
halved_odd e s he =
    let t = twice_is (e / 2) in let u = twice_is (s / 2) in
    let x : e ≡ suc (twice (e / 2)) = omega arith in
    elim (ℕ_discrete (s % 2) 0) [
      | yes h ↦
          let y : s ≡ twice (s / 2) = omega arith in
          ap₂ (λ (n k : ℕ). binomial n k % 2) x y ∙ odd_even (e / 2) (evens (e / 2)) (s / 2)
      | no n ↦
          let y : s ≡ suc (twice (s / 2)) = omega arith in
          ap₂ (λ (n k : ℕ). binomial n k % 2) x y ∙ odd_odd (e / 2) (evens (e / 2)) (s / 2)
    ]

-- two tests of equal numbers that pass together are equal
same_test : (x y u v : ℕ) → (x ≡ y → u ≡ v) → (u ≡ v → x ≡ y) → eqb x y ≡ eqb u v
same_test x y u v f g =
    elim (ℕ_discrete x y) [
      | yes e ↦ eq-eqb x y e ∙ sym (eq-eqb u v (f e))
      | no n ↦ ne_eqb x y n ∙ sym (ne_eqb u v (λ e. n (g e)))
    ]

-- the mask's test, over the halves
within_halves : (e s : ℕ) → min (e % 2) (s % 2) ≡ s % 2 → within e s ≡ within (e / 2) (s / 2)
within_halves e s h =
    let p = and_step e s in
    same_test (bit_and e s) s (bit_and (e / 2) (s / 2)) (s / 2) (λ q. omega arith) (λ q. omega arith)

-- an odd s in an even e
within_unlike : (e s : ℕ) → e % 2 ≡ 0 → s % 2 ≡ 1 → within e s ≡ false
within_unlike e s he hs =
    let p = and_step e s in
    let m : min (e % 2) (s % 2) ≡ 0 = ap₂ min he hs in
    ne_eqb (bit_and e s) s (λ q. omega arith)

-- one bit more
odd_step : (e s : ℕ) → eqb (binomial (e / 2) (s / 2) % 2) 1 ≡ within (e / 2) (s / 2) → eqb (binomial e s % 2) 1 ≡ within e s
odd_step e s ih =
    elim (ℕ_discrete (e % 2) 1) [
      | yes h ↦
          ap (λ (n : ℕ). eqb n 1) (halved_odd e s h) ∙ ih
          ∙ sym (within_halves e s (elim (ℕ_discrete (s % 2) 1) [ yes k ↦ ap₂ min h k ∙ sym k | no k ↦ let z : s % 2 ≡ 0 = omega arith in ap₂ min h z ∙ sym z ]))
      | no n ↦
          let h : e % 2 ≡ 0 = omega arith in
          elim (ℕ_discrete (s % 2) 0) [
            | yes k ↦ ap (λ (n : ℕ). eqb n 1) (halved_even e s h k) ∙ ih ∙ sym (within_halves e s (ap₂ min h k ∙ sym k))
            | no k ↦ let z : s % 2 ≡ 1 = omega arith in ap (λ (n : ℕ). eqb n 1) (unlike e s h z) ∙ sym (within_unlike e s h z)
          ]
    ]

-- of no bits
odd_none : (s : ℕ) → eqb (binomial zero s % 2) 1 ≡ within zero s
odd_none zero = ap (λ (n : ℕ). eqb (n % 2) 1) (binomial_zero zero)
odd_none (suc s) = ap (λ (n : ℕ). eqb (n % 2) 1) (binomial_none s) ∙ sym (ne_eqb zero (suc s) (λ q. omega arith))

-- the binomial of e over s is odd exactly where e has every bit of s
pub odd_binomial : (e s : ℕ) → eqb (binomial e s % 2) 1 ≡ within e s
odd_binomial = bin_ind (λ (e : ℕ). (s : ℕ) → eqb (binomial e s % 2) 1 ≡ within e s) odd_none (λ e ih s. odd_step e s (ih (s / 2)))
