-- The sum of symbols, bit by bit: associative, commutative, its own opposite, and a symbol again.
-- Assumes nothing.
use mathlib.Core.Path.{◌≡◌, refl, sym, ◌∙◌, ap, ap₂}
use Prim.Native.Nat.{ℕ, ◌+◌, ◌*◌, ◌/◌, ◌%◌, ◌^◌, ◌<◌}
use native.Mathlib.Omega.{arith}
use lib.Arith.{bin_ind, digits_mod, digits_div}
use lib.Bits.{bit_xor, bit_and, differ, xor_step, xor_comm, xor_self, xor_zero_r, xor_lt, xor_disjoint, and_shifted}
use lib.Dec.{T, eqb, eqb→eq, ltb, ltb→lt}
use Rattle.definitions.specs.Field.{sum_of}
use Rattle.algebra.proofs.Tests.{every, every_pair, every_at, every_pair_at}

-- a lowest bit is 0 or 1
bit_lt : (a : ℕ) → a % 2 < 2
bit_lt a = omega arith

-- the sum of two bits is a bit: four cases
differ_test : T (every_pair 2 (λ x y. ltb (differ x y) 2))
unfolding every
differ_test = tt

-- so of the lowest bits of any two numbers
differ_lt : (a b : ℕ) → differ (a % 2) (b % 2) < 2
differ_lt a b = ltb→lt _ _ (every_pair_at 2 (λ x y. ltb (differ x y) 2) differ_test (a % 2) (b % 2) (bit_lt a) (bit_lt b))

-- on single bits the sum is associative: eight cases
assoc_test : T (every 2 (λ z. every_pair 2 (λ x y. eqb (differ (differ x y) z) (differ x (differ y z)))))
unfolding every
assoc_test = tt

-- on single bits the sum is associative: eight cases
differ_assoc : (a b c : ℕ) → differ (differ (a % 2) (b % 2)) (c % 2) ≡ differ (a % 2) (differ (b % 2) (c % 2))
differ_assoc a b c =
    eqb→eq _ _
    (every_pair_at 2 (λ x y. eqb (differ (differ x y) (c % 2)) (differ x (differ y (c % 2))))
    (every_at 2 (λ z. every_pair 2 (λ x y. eqb (differ (differ x y) z) (differ x (differ y z)))) assoc_test (c % 2) (bit_lt c))
    (a % 2) (b % 2) (bit_lt a) (bit_lt b))

-- the higher bits of a sum
half : (a b : ℕ) → bit_xor a b / 2 ≡ bit_xor (a / 2) (b / 2)
half a b = ap (λ (x : ℕ). x / 2) (xor_step a b) ∙ digits_div (bit_xor (a / 2) (b / 2)) (differ_lt a b)

-- the lowest bit of a sum
low : (a b : ℕ) → bit_xor a b % 2 ≡ differ (a % 2) (b % 2)
low a b = ap (λ (x : ℕ). x % 2) (xor_step a b) ∙ digits_mod (bit_xor (a / 2) (b / 2)) (differ_lt a b)

-- from the higher bits to all
assoc_step : (n b c : ℕ) → bit_xor (bit_xor (n / 2) (b / 2)) (c / 2) ≡ bit_xor (n / 2) (bit_xor (b / 2) (c / 2))
    → bit_xor (bit_xor n b) c ≡ bit_xor n (bit_xor b c)
assoc_step n b c ih =
    xor_step (bit_xor n b) c
    ∙ ap₂ (λ (x y : ℕ). bit_xor x (c / 2) * 2 + differ y (c % 2)) (half n b) (low n b)
    ∙ ap₂ (λ (x y : ℕ). x * 2 + y) ih (differ_assoc n b c)
    ∙ ap₂ (λ (x y : ℕ). bit_xor (n / 2) x * 2 + differ (n % 2) y) (sym (half b c)) (sym (low b c))
    ∙ sym (xor_step n (bit_xor b c))

-- the sum is associative
pub sum_assoc : (a b c : ℕ) → sum_of (sum_of a b) c ≡ sum_of a (sum_of b c)
unfolding sum_of
sum_assoc a =
    bin_ind (λ (n : ℕ). (b c : ℕ) → bit_xor (bit_xor n b) c ≡ bit_xor n (bit_xor b c)) (λ b c. refl)
    (λ n ih b c. assoc_step n b c (ih (b / 2) (c / 2))) a

-- and commutative
pub sum_comm : (a b : ℕ) → sum_of a b ≡ sum_of b a
unfolding sum_of
sum_comm a b = xor_comm a b

-- so that summands can be sorted
pub sum_left : (a b c : ℕ) → sum_of a (sum_of b c) ≡ sum_of b (sum_of a c)
sum_left a b c = sym (sum_assoc a b c) ∙ ap (λ (x : ℕ). sum_of x c) (sum_comm a b) ∙ sum_assoc b a c

-- zero is neutral
pub sum_neutral : (a : ℕ) → sum_of a 0 ≡ a
unfolding sum_of
sum_neutral a = xor_zero_r a

-- on both sides
pub zero_sum : (a : ℕ) → sum_of 0 a ≡ a
unfolding sum_of
zero_sum a = refl

-- characteristic 2
pub sum_self : (a : ℕ) → sum_of a a ≡ 0
unfolding sum_of
sum_self a = xor_self a

-- the rules that sort a sum
pub ruleset sums = (sum_assoc, sum_comm, sum_left, sum_neutral, zero_sum)

-- a sum of symbols is a symbol
pub sum_lt : (w a b : ℕ) → a < 2 ^ w → b < 2 ^ w → sum_of a b < 2 ^ w
unfolding sum_of
sum_lt w a b ha hb = xor_lt w a b ha hb

-- a power of two has no bit in common with what is below it
pub sum_of_power : (e c : ℕ) → c < 2 ^ e → sum_of c (2 ^ e) ≡ 2 ^ e + c
unfolding sum_of
sum_of_power e c h =
    xor_comm c (2 ^ e)
    ∙ xor_disjoint (2 ^ e) c (ap (λ (x : ℕ). bit_and x c) (let one : 2 ^ e ≡ 1 * 2 ^ e = omega arith in one) ∙ and_shifted 1 e c h)
