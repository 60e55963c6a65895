-- The fewest digits that hold a number are its decimal text.
-- Assumes nothing.
use mathlib.Core.Bool.{Bool, cond}
use mathlib.Core.List.{List, [], ◌∷◌, ◌++◌}
use mathlib.Core.Path.{◌≡◌, refl, sym, ◌∙◌, ap, subst}
use Prim.Native.Nat.{ℕ, zero, suc, ◌+◌, ◌*◌, ◌-◌, ◌/◌, ◌%◌, ◌^◌, ◌≤◌, ◌<◌}
use native.Mathlib.Omega.{arith}
use native.Mathlib.Nat.{pow-suc}
use borrow.Author.Tests.{lt-ltb, le-ltb}
use Rattle.io.specs.Digits.{hex_digit_ascii, last_digits, IsDigitCount}
use Rattle.text.specs.Text.{decimal_within, decimal}

-- the clauses of the decimal text
pub within_none : (x : ℕ) → decimal_within zero x ≡ []
unfolding decimal_within
within_none x = refl

pub within_one : (w x : ℕ) → x < 10 → decimal_within (suc w) x ≡ ((48 + x) ∷ [])
unfolding decimal_within
within_one w x h = ap (λ (b : Bool). cond b ((48 + x) ∷ []) (decimal_within w (x / 10) ++ ((48 + x % 10) ∷ []))) (lt-ltb x 10 h)

pub within_more : (w x : ℕ) → 10 ≤ x → decimal_within (suc w) x ≡ decimal_within w (x / 10) ++ ((48 + x % 10) ∷ [])
unfolding decimal_within
within_more w x h = ap (λ (b : Bool). cond b ((48 + x) ∷ []) (decimal_within w (x / 10) ++ ((48 + x % 10) ∷ []))) (le-ltb x 10 h)

-- a digit below ten
glyph_ten : (d : ℕ) → d < 10 → hex_digit_ascii d ≡ 48 + d
glyph_ten d h = ap (λ (b : Bool). cond b (48 + d) (87 + d)) (lt-ltb d 10 h)

power_more : (k : ℕ) → 10 ^ suc k ≡ 10 ^ k * 10
power_more k = pow-suc 10 k

-- more than one digit
above : (k : ℕ) → k < 10 ^ k
above zero = omega arith
above (suc k) = let ih = above k in let e = power_more k in omega arith

within : (k w x : ℕ) → x < 10 ^ suc k → (0 < k → 10 ^ k ≤ x) → k < w → last_digits 10 (suc k) x ≡ decimal_within w x
within k zero x l f h = let z : ⊥ = omega arith in absurd z
within zero (suc w) x l f h =
    let small : x < 10 = omega arith in
    let same : x % 10 ≡ x = omega arith in
    ap (λ (d : ℕ). hex_digit_ascii d ∷ []) same ∙ ap (λ (d : ℕ). d ∷ []) (glyph_ten x small) ∙ sym (within_one w x small)
within (suc k) (suc w) x l f h =
    let least : 10 ^ suc k ≤ x = f (omega arith) in
    let em = power_more k in
    let ek = power_more (suc k) in
    let a = above k in
    let many : 10 ≤ x = omega arith in
    ap (λ (p : List ℕ). p ++ (hex_digit_ascii (x % 10) ∷ [])) (within k w (x / 10) (omega arith) (λ _. omega arith) (omega arith))
    ∙ ap (λ (d : ℕ). decimal_within w (x / 10) ++ (d ∷ [])) (glyph_ten (x % 10) (omega arith))
    ∙ sym (within_more w x many)

-- a number of more than one digit
least_is : (x k : ℕ) → IsDigitCount 10 1 x (suc (suc k)) → 10 ^ suc k ≤ x
least_is x k f =
    let e : suc (suc k) - 1 ≡ suc k = omega arith in
    subst (λ (n : ℕ). 10 ^ n ≤ x) e (f.2 (omega arith))

pub decimal_is : (x k : ℕ) → IsDigitCount 10 1 x k → last_digits 10 k x ≡ decimal x
decimal_is x zero f = let z : ⊥ = omega arith in absurd z
decimal_is x (suc zero) f = within zero (suc x) x f.1 (λ h. let z : ⊥ = omega arith in absurd z) (omega arith)
decimal_is x (suc (suc k)) f =
    let least : 10 ^ suc k ≤ x = least_is x k f in
    let a = above (suc k) in
    within (suc k) (suc x) x f.1 (λ _. least) (omega arith)
