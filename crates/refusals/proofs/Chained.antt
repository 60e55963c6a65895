-- What a chain of checks has come to: the lines of a table tried in turn, over any outcome, give what the table gives.
-- Assumes nothing.
use mathlib.Core.List.{List, [], ◌∷◌, ◌++◌}
use mathlib.Core.Path.{◌≡◌, refl, sym, ◌∙◌, subst}
use Prim.Native.Nat.{ℕ}
use Rattle.std.specs.Prelude.{Result, Ok, Err}
use Rattle.definitions.proofs.Table.{Gives, stop, pass, Accepts, gives, accepts}
use Rattle.definitions.proofs.Tools.{split}
use Rattle.definitions.specs.Answers.{Answer, refused}
use Rattle.definitions.specs.Refusals.{Line, tried}
use Rattle.refusals.proofs.Chain.{Came as Passed, start as begun, ◌▸◌ as ◌▹◌, onward, accepted as all_passed, goes_on as passed_on}
use Rattle.refusals.specs.Checked.{Outcome, passed, refused_at, or_line, told_checked}
use Rattle.refusals.specs.Refusal.{told_refusal}
use Rattle.refusals.specs.declared.Refusal.{Refusal}
use Rattle.refusals.specs.declared.Refusal.TheVariants.{Sizes, Setting, Length, Room, Symbol, Column, Cost, Zero, Plan, Proposal}

infixl 60 ◌▸◌
-- the lines of the table up to the rest were tried, and gave this
pub data Came (table : List Line) : List Line → Outcome → Type 0 where
  start : Came table table passed
  ◌▸◌ : {l : Line} {rest : List Line} {o p : Outcome} → Came table (l ∷ rest) o → p ≡ or_line o l → Came table rest p

-- what a chain says of its table: each of these lines was passed, or the first that is given is the refusal
abbrev pub Verdict : List Line → List Line → Outcome → Type 0
Verdict table rest passed = Passed table rest
Verdict table rest (refused_at number place) = Gives table number place

module _ (table : List Line) where
  one_more : (l : Line) (rest : List Line) (o : Outcome) → Verdict table (l ∷ rest) o → Verdict table rest (or_line o l)
  one_more l rest passed came = split l.given (λ y. rw y (onward came (stop y))) (λ n. rw n (came ▹ n))
  one_more l rest (refused_at number place) g = g

  pub verdict_tried : (o : Outcome) → Verdict table [] o → o ≡ tried table refused_at passed
  verdict_tried passed came = accepts refused_at passed (all_passed came)
  verdict_tried (refused_at number place) g = gives refused_at passed g

verdict : {table rest : List Line} {o : Outcome} → Came table rest o → Verdict table rest o
verdict start = begun
verdict (◌▸◌ {l = l} {rest = rest} {o = o} came e) = subst (Verdict _ rest) (sym e) (one_more _ l rest o (verdict came))

-- every line was tried
pub all_tried : {table : List Line} {o : Outcome} → Came table [] o → o ≡ tried table refused_at passed
all_tried {table} {o} came = verdict_tried table o (verdict came)

-- a refusal is its number and place, and nothing else
pub told_is : (r : Refusal) → told_refusal r ≡ refused (told_refusal r).number (told_refusal r).place
told_is Sizes = refl
told_is Setting = refl
told_is Length = refl
told_is Room = refl
told_is (Symbol place) = refl
told_is (Column place) = refl
told_is Cost = refl
told_is Zero = refl
told_is Plan = refl
told_is Proposal = refl

-- a table that goes on: what its front gives it gives, and what its front passes is left to the rest
gives_too : {front : List Line} {number place : ℕ} (rest : List Line) → Gives front number place → Gives (front ++ rest) number place
gives_too rest (stop e) = stop e
gives_too rest (pass e later) = pass e (gives_too rest later)

passed_too : {front left : List Line} (rest : List Line) → Passed front left → Passed (front ++ rest) (left ++ rest)
passed_too rest begun = begun
passed_too rest (came ▹ e) = passed_too rest came ▹ e

-- what a chain over the front of a table says of the call, once it is known whether it passed
module _ {T : Type 0} {front : List Line} {c : Result T Refusal} (came : Came front [] (told_checked c)) where
  verdict_of : (d : Result T Refusal) → c ≡ d → Verdict front [] (told_checked d)
  verdict_of d e = subst (λ (x : Result T Refusal). Verdict front [] (told_checked x)) e (verdict came)

  pub accepted : {x : T} → c ≡ Ok x → Accepts front
  accepted {x} e = all_passed (verdict_of (Ok x) e)

  pub given : {r : Refusal} → c ≡ Err r → Gives front (told_refusal r).number (told_refusal r).place
  given {r} e = verdict_of (Err r) e

  -- whatever is made of a refusal: the memory that is left
  pub stops {ℓ} : {A : Type ℓ} (rest : List Line) (refuse : ℕ → ℕ → A) (accept : A) {r : Refusal} → c ≡ Err r
      → refuse (told_refusal r).number (told_refusal r).place ≡ tried (front ++ rest) refuse accept
  stops rest refuse accept e = gives refuse accept (gives_too rest (given e))

  -- the answer
  pub answers : (rest : List Line) (accept : Answer) {r : Refusal} → c ≡ Err r → told_refusal r ≡ tried (front ++ rest) refused accept
  answers rest accept {r} e = told_is r ∙ stops rest refused accept e

  -- the rest decides
  pub goes_on {ℓ} : {A : Type ℓ} (rest : List Line) (refuse : ℕ → ℕ → A) (accept : A) {x : T} → c ≡ Ok x
      → tried rest refuse accept ≡ tried (front ++ rest) refuse accept
  goes_on rest refuse accept {x} e = passed_on refuse accept (passed_too rest (verdict_of (Ok x) e))
