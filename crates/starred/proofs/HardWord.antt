-- Hard word 1,1,1 with k 2: bound 2, coefficients 1,0,1,0,0,0.
-- Assumes nothing.
use mathlib.Core.Bool.{Bool, true, false, not, ◌&&◌, ◌||◌, true≢false}
use mathlib.Core.List.{List, [], ◌∷◌, flat_map}
use mathlib.Core.Path.{◌≡◌, refl, sym, ◌∙◌, ap, ap₂}
use Prim.Native.Nat.{ℕ, zero, suc, ◌≤◌, ◌<◌}
use native.Mathlib.Decide.{dec_lt}
use native.Mathlib.Omega.{arith}
use borrow.Author.Tests.{eq-eqb, ne_eqb}
use lib.Dec.{T, eqb, leb, eqb→eq, leb→le}
use lib.ListN.{length, get_or}
use lib.Seq.{ext_get_or}
use Rattle.algebra.proofs.Tests.{every, every_pair, every_at, every_pair_at, first_passes, second_passes}
use Rattle.definitions.proofs.Zeros.{is_zero_of_zeros}
use Rattle.definitions.specs.Bound.{count}
use Rattle.definitions.specs.Code.{Symbols, point}
use Rattle.definitions.specs.Field.{numbers, sixteen, sum_of, double, shifted, power}
use Rattle.definitions.specs.Polynomial.{Interpolates, Through, binomial, modulo2, derivative, hasse, terms, monomials, is_zero, leading}
use Rattle.definitions.specs.Tools.{below, sum}
use Rattle.definitions.specs.Weights.{entry}
use Rattle.linear.proofs.Leading.{zero_after}
use Rattle.starred.specs.Single.{single, hard_word}

abbrev word : List ℕ
word = hard_word (1 ∷ 1 ∷ 1 ∷ [])

abbrev answer : List ℕ
answer = 1 ∷ 0 ∷ 1 ∷ 0 ∷ 0 ∷ 0 ∷ []

-- the value of a polynomial at a point
value_at : List ℕ → ℕ → ℕ → ℕ
value_at q x y = hasse (numbers sixteen) (terms (numbers sixteen) q (monomials 1 2)) 0 0 x y

passes_at : ℕ → ℕ → Bool
passes_at i b = leb (entry sixteen word i b) 1 && (eqb (entry sixteen word i b) 0 || eqb (value_at answer (point sixteen i) b) 0)

passing : T (every 3 (λ i. every sixteen.symbols (λ b. passes_at i b)))
unfolding passes_at value_at single every hasse terms derivative modulo2 binomial power sum_of double shifted below flat_map
passing = tt

-- of two coefficients only zeros pass through two of the points
none_at : ℕ → ℕ → Bool
none_at a b = not (eqb (value_at (a ∷ b ∷ 0 ∷ 0 ∷ 0 ∷ 0 ∷ []) 1 1) 0) || (not (eqb (value_at (a ∷ b ∷ 0 ∷ 0 ∷ 0 ∷ 0 ∷ []) 2 1) 0) || (eqb a 0 && eqb b 0))

none : T (every_pair sixteen.symbols none_at)
unfolding none_at value_at every hasse terms derivative modulo2 binomial power sum_of double shifted below flat_map
none = tt

module _ (i b : ℕ) (hi : i < 3) (hb : b < sixteen.symbols) where
  test_at : T (passes_at i b)
  test_at = every_at sixteen.symbols (λ b. passes_at i b) (every_at 3 (λ i. every sixteen.symbols (λ b. passes_at i b)) passing i hi) b hb

  at_most_one : entry sixteen word i b ≤ 1
  unfolding passes_at
  at_most_one = leb→le (entry sixteen word i b) 1 (first_passes (leb (entry sixteen word i b) 1) (eqb (entry sixteen word i b) 0 || eqb (value_at answer (point sixteen i) b) 0) test_at)

  value_zero : (entry sixteen word i b ≡ 0 → ⊥) → value_at answer (point sixteen i) b ≡ 0
  unfolding passes_at
  value_zero n =
      eqb→eq (value_at answer (point sixteen i) b) 0
      (rw (ne_eqb (entry sixteen word i b) 0 n) at
      (second_passes (leb (entry sixteen word i b) 1) (eqb (entry sixteen word i b) 0 || eqb (value_at answer (point sixteen i) b) 0) test_at))

passes : Through sixteen 3 1 2 word answer
unfolding value_at
passes i b hi hb s t h =
    let e = at_most_one i b hi hb in
    let es : s ≡ 0 = omega arith in
    let et : t ≡ 0 = omega arith in
    ap₂ (λ (s t : ℕ). hasse (numbers sixteen) (terms (numbers sixteen) answer (monomials 1 2)) s t (point sixteen i) b) es et
    ∙ value_zero i b hi hb (λ z. omega arith)

both_zero : (a b : ℕ) → a < sixteen.symbols → b < sixteen.symbols → value_at (a ∷ b ∷ 0 ∷ 0 ∷ 0 ∷ 0 ∷ []) 1 1 ≡ 0 → value_at (a ∷ b ∷ 0 ∷ 0 ∷ 0 ∷ 0 ∷ []) 2 1 ≡ 0 → (a ≡ 0) × (b ≡ 0)
unfolding none_at
both_zero a b ha hb e f =
    let at_one = eq-eqb (value_at (a ∷ b ∷ 0 ∷ 0 ∷ 0 ∷ 0 ∷ []) 1 1) 0 e in
    let at_two = eq-eqb (value_at (a ∷ b ∷ 0 ∷ 0 ∷ 0 ∷ 0 ∷ []) 2 1) 0 f in
    let t : T (eqb a 0 && eqb b 0) = rw (at_one, at_two) at (every_pair_at sixteen.symbols none_at none a b ha hb) in
    (eqb→eq a 0 (first_passes (eqb a 0) (eqb b 0) t), eqb→eq b 0 (second_passes (eqb a 0) (eqb b 0) t))

-- a list of six that ends before the third
shape : (p : List ℕ) → length p ≡ 6 → leading p < 2 → p ≡ get_or p 0 0 ∷ get_or p 1 0 ∷ 0 ∷ 0 ∷ 0 ∷ 0 ∷ []
shape p e h = ext_get_or 0 p (get_or p 0 0 ∷ get_or p 1 0 ∷ 0 ∷ 0 ∷ 0 ∷ 0 ∷ []) e (λ i l. at i (omega arith))
  where
    at : (i : ℕ) → i < 6 → get_or p i 0 ≡ get_or (get_or p 0 0 ∷ get_or p 1 0 ∷ 0 ∷ 0 ∷ 0 ∷ 0 ∷ []) i 0
    at zero l = refl
    at (suc zero) l = refl
    at (suc (suc zero)) l = zero_after p 2 (omega arith)
    at (suc (suc (suc zero))) l = zero_after p 3 (omega arith)
    at (suc (suc (suc (suc zero)))) l = zero_after p 4 (omega arith)
    at (suc (suc (suc (suc (suc zero))))) l = zero_after p 5 (omega arith)
    at (suc (suc (suc (suc (suc (suc i)))))) l = let z : ⊥ = omega arith in absurd z

first_point : (p : List ℕ) → Through sixteen 3 1 2 word p → value_at p 1 1 ≡ 0
unfolding value_at single below power sum_of double shifted
first_point p h = h 0 1 (omega arith) (omega arith) 0 0 (omega arith)

second_point : (p : List ℕ) → Through sixteen 3 1 2 word p → value_at p 2 1 ≡ 0
unfolding value_at single below power sum_of double shifted
second_point p h = h 1 1 (omega arith) (omega arith) 0 0 (omega arith)

none_earlier : (p : List ℕ) → length p ≡ 6 → Symbols sixteen p → Through sixteen 3 1 2 word p → leading p < 2 → is_zero p ≡ true
none_earlier p e sp through h =
    let s = shape p e h in
    let at_one = ap (λ (q : List ℕ). value_at q 1 1) (sym s) ∙ first_point p through in
    let at_two = ap (λ (q : List ℕ). value_at q 2 1) (sym s) ∙ second_point p through in
    let z = both_zero (get_or p 0 0) (get_or p 1 0) (sp 0) (sp 1) at_one at_two in
    is_zero_of_zeros p (λ k. at z k)
  where
    at : (get_or p 0 0 ≡ 0) × (get_or p 1 0 ≡ 0) → (k : ℕ) → get_or p k 0 ≡ 0
    at z zero = z.0
    at z (suc zero) = z.1
    at z (suc (suc k)) = zero_after p (suc (suc k)) (omega arith)

answer_symbols : Symbols sixteen answer
answer_symbols zero = omega arith
answer_symbols (suc zero) = omega arith
answer_symbols (suc (suc zero)) = omega arith
answer_symbols (suc (suc (suc zero))) = omega arith
answer_symbols (suc (suc (suc (suc zero)))) = omega arith
answer_symbols (suc (suc (suc (suc (suc zero))))) = omega arith
answer_symbols (suc (suc (suc (suc (suc (suc j)))))) = omega arith

answer_leads : leading answer ≡ 2
unfolding leading is_zero
answer_leads = refl

answer_size : length answer ≡ count 1 2
unfolding sum
answer_size = refl

size_six : count 1 2 ≡ 6
unfolding sum
size_six = refl

answer_nonzero : is_zero answer ≡ false
unfolding is_zero
answer_nonzero = refl

answer_one : get_or answer 2 0 ≡ 1
answer_one = refl

pub hard_word_lem : Interpolates sixteen 3 1 2 word answer
hard_word_lem = record {
  size = answer_size;
  symbols = answer_symbols;
  through = passes;
  nonzero = answer_nonzero;
  leads = ap (λ (k : ℕ). get_or answer k 0) answer_leads ∙ answer_one;
  least = λ p e sp through n. elim (dec_lt (leading p) 2) [
    | yes h ↦ absurd (true≢false (sym (none_earlier p (e ∙ size_six) sp through h) ∙ n))
    | no l ↦ let f = answer_leads in omega arith
  ];
}
