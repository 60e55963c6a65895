-- The promise of interpolation allows one answer and one memory; and with all multiplicities zero the polynomial is 1.
-- Assumes nothing.
use mathlib.Core.Bool.{Bool, true, false, cond}
use mathlib.Core.List.{List, [], ◌∷◌, ◌++◌}
use mathlib.Core.Path.{◌≡◌, refl, sym, ◌∙◌, ap}
use Prim.Native.Nat.{ℕ, zero, suc, ◌+◌, ◌*◌, ◌-◌, ◌<◌}
use native.Mathlib.Omega.{arith}
use lib.ListN.{length, drop, get_or}
use Rattle.algebra.proofs.Elements.{zero_symbol, one_symbol}
use Rattle.algebra.specs.FieldOf.{FieldOf}
use Rattle.definitions.proofs.Bound.{count_zero, bound_le}
use Rattle.definitions.proofs.Tools.{sum_zero, sum_suc}
use Rattle.definitions.proofs.Zeros.{is_zero_false}
use Rattle.definitions.specs.Answers.{Answer, refused, interpolated, Interpolated, InterpolationAnswers}
use Rattle.definitions.specs.Bound.{bound}
use Rattle.definitions.specs.Code.{Symbols}
use Rattle.definitions.specs.Editing.{held_interpolation_table, HeldInterpolationAnswers}
use Rattle.definitions.specs.Field.{Code}
use Rattle.definitions.specs.Held.{Held, bytes_of}
use Rattle.definitions.specs.Polynomial.{Interpolates, leading}
use Rattle.definitions.specs.Refusals.{Line, tried, interpolation_table}
use Rattle.definitions.specs.Tools.{sum}
use Rattle.definitions.specs.Weights.{entry_cost, cost}
use Rattle.linear.proofs.Leading.{leading_is}
use Rattle.linear.proofs.Unique.{interpolates_unique}
use Rattle.refusals.proofs.Unique.{one_told}
use Rattle.interpolation.specs.Answered.{Answered}
use Rattle.interpolation.specs.Interpolated.{told_interpolated}
use Rattle.interpolation.specs.declared.Interpolated as Declared
use Rattle.refusals.specs.declared.Refusal.{Refusal}
use Rattle.std.specs.Prelude.{Result}

-- the same test decides between two pairs of types
choose : {A B D E R : Type 0} (b : Bool) → (A → B → R) → (D → E → R) → cond b A D → cond b B E → R
choose true f g x y = f x y
choose false f g x y = g x y

module _ (out : List ℕ) (a b : Answer) (after later : List ℕ) (X Y : Type 0) (same : X → Y → (a ≡ b) × (after ≡ later)) where
  -- what a table refuses or accepts is one answer and one memory
  tried_unique : (table : List Line) → tried table (λ number place. (a ≡ refused number place) × (after ≡ out)) X
      → tried table (λ number place. (b ≡ refused number place) × (later ≡ out)) Y → (a ≡ b) × (after ≡ later)
  tried_unique [] x y = same x y
  tried_unique (l ∷ table) x y = choose l.given (λ x y. (x.0 ∙ sym y.0, x.1 ∙ sym y.1)) (tried_unique table) x y

module _ (C : Code) (F : FieldOf C) (n k G : ℕ) (m out : List ℕ) where
  -- of the polynomial
  accepted_unique : (a b : Answer) (after later : List ℕ) → Interpolated C n k m out a after → Interpolated C n k m out b later
      → (a ≡ b) × (after ≡ later)
  accepted_unique a b after later x y =
      let e = interpolates_unique C F n (k - 1) (bound (k - 1) (cost m)) m x.0 y.0 x.1 y.1 in (
        x.2 ∙ ap (λ (q : List ℕ). interpolated (bound (k - 1) (cost m)) (length q)) e ∙ sym y.2,
        x.3 ∙ ap (λ (q : List ℕ). q ++ drop (length q) out) e ∙ sym y.3,
      )

  -- of the numbers of the answer, whatever the table
  answered_unique : (table : List Line) (a b : Answer) (after later : List ℕ) → Answered C table n k m out a after → Answered C table n k m out b later
      → (a ≡ b) × (after ≡ later)
  answered_unique table a b after later =
      tried_unique out a b after later (Interpolated C n k m out a after) (Interpolated C n k m out b later) (accepted_unique a b after later) table

  -- so of bytes
  pub numbers_unique : (a b : Answer) (after later : List ℕ) → InterpolationAnswers C n k G m out a after → InterpolationAnswers C n k G m out b later
      → (a ≡ b) × (after ≡ later)
  numbers_unique = answered_unique (interpolation_table C n k G m (length out))

-- and of a record
pub held_numbers_unique : (C : Code) → FieldOf C → (h : Held) (k G : ℕ) (out : List ℕ) (a b : Answer) (after later : List ℕ) → HeldInterpolationAnswers C h k G out a after
    → HeldInterpolationAnswers C h k G out b later → (a ≡ b) × (after ≡ later)
held_numbers_unique C F h k G out = answered_unique C F h.n k G (bytes_of C h) out (held_interpolation_table C h k G (length out))

-- of the result that the numbers tell
pub one_interpolated : {x y : Result Declared.Interpolated Refusal} {a : Answer} → told_interpolated x ≡ a → told_interpolated y ≡ a → x ≡ y
one_interpolated =
    one_told (λ (x : Declared.Interpolated). interpolated x.bound x.count) (λ a. record { bound = a.bound; count = a.count }) (λ _. refl) (λ _. refl)

-- ---- all multiplicities zero

module _ (m : List ℕ) (none : (j : ℕ) → get_or m j 0 ≡ 0) where
  -- entries of zero cost nothing
  no_cost : (n : ℕ) → sum n (λ (j : ℕ). entry_cost (get_or m j 0)) ≡ 0
  no_cost zero = sum_zero (λ (j : ℕ). entry_cost (get_or m j 0))
  no_cost (suc n) =
      let e = no_cost n in
      sum_suc n (λ (j : ℕ). entry_cost (get_or m j 0)) ∙ ap (λ (x : ℕ). sum n (λ (j : ℕ). entry_cost (get_or m j 0)) + entry_cost x) (none n) ∙ omega arith

  -- "cost 0, bound 0"
  pub zero_cost : cost m ≡ 0
  zero_cost = no_cost (length m)

  -- so the bound is 0
  pub zero_bound : (v : ℕ) → 0 < v → bound v (cost m) ≡ 0
  zero_bound v pos = let b = bound_le v pos (cost m) in let e = zero_cost in omega arith

module _ (C : Code) (F : FieldOf C) (m : List ℕ) (none : (j : ℕ) → get_or m j 0 ≡ 0) where
  -- 1 interpolates
  one_interpolates : (n v : ℕ) → 0 < v → Interpolates C n v 0 m (1 ∷ [])
  one_interpolates n v pos = record {
    size = sym (count_zero v pos);
    symbols = one_symbols;
    through = λ i b hi hb s t h. let z = none (C.symbols * i + b) in let y : ⊥ = omega arith in absurd y;
    nonzero = is_zero_false (1 ∷ []) 0 not_zero;
    leads = ap (λ (k : ℕ). get_or (1 ∷ []) k 0) leads_first;
    least = λ p e sp through nz. let f = leads_first in omega arith;
  }
    where
      one_symbols : Symbols C (1 ∷ [])
      one_symbols zero = one_symbol C F
      one_symbols (suc j) = zero_symbol C F

      not_zero : ◌≡◌ {A = ℕ} 1 0 → ⊥
      not_zero e = omega arith

      after_first : (k : ℕ) → 0 < k → ◌≡◌ {A = ℕ} (get_or (1 ∷ []) k 0) 0
      after_first zero h = let z : ⊥ = omega arith in absurd z
      after_first (suc k) h = refl

      leads_first : leading (1 ∷ []) ≡ 0
      leads_first = leading_is (1 ∷ []) 0 not_zero after_first

  -- "polynomial 1"
  pub zero_polynomial : (n v : ℕ) (q : List ℕ) → 0 < v → Interpolates C n v 0 m q → q ≡ 1 ∷ []
  zero_polynomial n v q pos h = interpolates_unique C F n v 0 m q (1 ∷ []) h (one_interpolates n v pos)
