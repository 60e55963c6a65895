-- What the numbers of an answer tell is the answer: so a promise on the numbers allows one result.
-- Assumes nothing.
use mathlib.Core.Bool.{cond}
use mathlib.Core.List.{[], ◌∷◌}
use mathlib.Core.Path.{◌≡◌, refl, sym, ◌∙◌, ap}
use native.Mathlib.Omega.{arith}
use lib.Dec.{eqb}
use lib.ListN.{get_or}
use Rattle.std.specs.Prelude.{ℕ, Result, Ok, Err}
use Rattle.definitions.specs.Answers.{Answer, counted}
use Rattle.refusals.specs.Told.{told, told_counted}
use Rattle.refusals.specs.Refusal.{told_refusal}
use Rattle.refusals.specs.declared.Refusal.{Refusal}
use Rattle.refusals.specs.declared.Refusal.TheVariants.{Sizes, Setting, Length, Room, Symbol, Column, Cost, Zero, Plan, Proposal}

-- where the answer can be had back from its numbers, two answers with the same numbers are equal
pub same_told : {X : Type 0} (told : X → Answer) (back : Answer → X) → ((x : X) → back (told x) ≡ x) → {x y : X} {a : Answer}
    → told x ≡ a → told y ≡ a → x ≡ y
same_told told back is_back {x} {y} p q = sym (is_back x) ∙ ap back (p ∙ sym q) ∙ is_back y

-- no refusal has the number 0
pub refusal_number : (r : Refusal) → (told_refusal r).number ≡ 0 → ⊥
refusal_number Sizes e = omega arith
refusal_number Setting e = omega arith
refusal_number Length e = omega arith
refusal_number Room e = omega arith
refusal_number (Symbol place) e = omega arith
refusal_number (Column place) e = omega arith
refusal_number Cost e = omega arith
refusal_number Zero e = omega arith
refusal_number Plan e = omega arith
refusal_number Proposal e = omega arith

-- the refusal of a number and a place
abbrev pub refusal_of : Answer → Refusal
refusal_of a = get_or (Sizes ∷ Sizes ∷ Setting ∷ Length ∷ Room ∷ Symbol a.place ∷ Column a.place ∷ Cost ∷ Zero ∷ Plan ∷ Proposal ∷ []) a.number Sizes

-- an answer whose number is 0 is accepted, any other is refused
abbrev pub answer_of : {X : Type 0} → (Answer → X) → (Refusal → X) → Answer → X
answer_of accepted refused a = cond (eqb a.number 0) (accepted a) (refused (refusal_of a))

pub refused_back : {X : Type 0} (accepted : Answer → X) (refused : Refusal → X) (r : Refusal)
    → answer_of accepted refused (told_refusal r) ≡ refused r
refused_back accepted refused Sizes = refl
refused_back accepted refused Setting = refl
refused_back accepted refused Length = refl
refused_back accepted refused Room = refl
refused_back accepted refused (Symbol place) = refl
refused_back accepted refused (Column place) = refl
refused_back accepted refused Cost = refl
refused_back accepted refused Zero = refl
refused_back accepted refused Plan = refl
refused_back accepted refused Proposal = refl

-- where what is accepted can be had back from its answer, whose number is 0, a result can be had back from its numbers
result_back : {T : Type 0} (accepted : T → Answer) (back : Answer → T) → ((x : T) → (accepted x).number ≡ 0) → ((x : T) → back (accepted x) ≡ x)
    → (r : Result T Refusal) → answer_of (λ a. Ok (back a)) Err (told accepted r) ≡ r
result_back accepted back zero is_back (Ok x) =
    ap (λ (n : ℕ). cond (eqb n 0) (Ok (back (accepted x))) (Err (refusal_of (accepted x)))) (zero x) ∙ ap Ok (is_back x)
result_back accepted back zero is_back (Err r) = refused_back (λ a. Ok (back a)) Err r

-- so two results with the same numbers are equal
pub one_told : {T : Type 0} (accepted : T → Answer) (back : Answer → T) → ((x : T) → (accepted x).number ≡ 0) → ((x : T) → back (accepted x) ≡ x)
    → {x y : Result T Refusal} {a : Answer} → told accepted x ≡ a → told accepted y ≡ a → x ≡ y
one_told accepted back zero is_back = same_told (told accepted) (answer_of (λ a. Ok (back a)) Err) (result_back accepted back zero is_back)

pub one_counted : {x y : Result ℕ Refusal} {a : Answer} → told_counted x ≡ a → told_counted y ≡ a → x ≡ y
one_counted = one_told counted (λ a. a.count) (λ _. refl) (λ _. refl)
