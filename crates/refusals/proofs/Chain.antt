-- How a call comes through the checks of its table, and what the table makes of it then.
-- Assumes nothing.
use mathlib.Core.Bool.{true, false}
use mathlib.Core.List.{List, [], ◌∷◌, ◌++◌}
use mathlib.Core.Path.{◌≡◌, refl, ◌∙◌}
use Prim.Native.Nat.{ℕ}
use Rattle.definitions.proofs.Table.{Gives, stop, pass, Accepts, end, next, gives}
use Rattle.definitions.specs.Answers.{Answer, refused}
use Rattle.definitions.specs.Refusals.{Line, tried}
use Rattle.refusals.specs.Refusal.{told_refusal}
use Rattle.refusals.specs.declared.Refusal.{Refusal}

infixl 60 ◌▸◌
-- the lines of the table up to the rest were passed
pub data Came (table : List Line) : List Line → Type 0 where
  start : Came table table
  ◌▸◌ : {l : Line} {rest : List Line} → Came table (l ∷ rest) → l.given ≡ false → Came table rest

module _ {table : List Line} where
  -- what the rest gives, the table gives
  pub onward : {rest : List Line} {number place : ℕ} → Came table rest → Gives rest number place → Gives table number place
  onward start g = g
  onward (came ▸ e) g = onward came (pass e g)

  accepts_onward : {rest : List Line} → Came table rest → Accepts rest → Accepts table
  accepts_onward start a = a
  accepts_onward (came ▸ e) a = accepts_onward came (next e a)

  -- every line was passed
  pub accepted : Came table [] → Accepts table
  accepted came = accepts_onward came end

  module _ {l : Line} {rest : List Line} (came : Came table (l ∷ rest)) where
    -- the next line is given: whatever is made of its refusal, as the memory that is left
    pub stops {ℓ} : {A : Type ℓ} (refuse : ℕ → ℕ → A) (accept : A) → l.given ≡ true → refuse l.number l.place ≡ tried table refuse accept
    stops refuse accept e = gives refuse accept (onward came (stop e))

    -- the answer
    pub answers : (accept : Answer) (r : Refusal) → (l.given ≡ true) × (told_refusal r ≡ refused l.number l.place) → told_refusal r ≡ tried table refused accept
    answers accept r t = t.1 ∙ stops refused accept t.0

-- the rest decides
module _ {ℓ} {A : Type ℓ} (refuse : ℕ → ℕ → A) (accept : A) where
  passed : (l : Line) (rest : List Line) → l.given ≡ false → tried rest refuse accept ≡ tried (l ∷ rest) refuse accept
  passed l rest e = rw e refl

  pub goes_on : {table rest : List Line} → Came table rest → tried rest refuse accept ≡ tried table refuse accept
  goes_on start = refl
  goes_on (◌▸◌ {l = l} {rest = rest} came e) = passed l rest e ∙ goes_on came

pub accepts_front : (front more : List Line) → Accepts (front ++ more) → Accepts front
accepts_front [] more a = end
accepts_front (l ∷ front) more (next e a) = next e (accepts_front front more a)

pub accepts_behind : (front more : List Line) → Accepts (front ++ more) → Accepts more
accepts_behind [] more a = a
accepts_behind (l ∷ front) more (next e a) = accepts_behind front more a
