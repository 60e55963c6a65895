-- Words that the auditors' laws are written with: messages, words of symbols added and multiplied, and in how many positions two words agree.
-- Assumes nothing.
use Rattle.std.specs.Prelude.{cond, List, ◌≡◌, ℕ, ◌*◌, eqb, length, get_or}
use Rattle.definitions.specs.Code.{Symbols}
use Rattle.definitions.specs.Editing.{add_answer}
use Rattle.definitions.specs.Field.{Code, numbers}
use Rattle.definitions.specs.Held.{Held}
use Rattle.definitions.specs.Roots.{plus, scaled}
use Rattle.definitions.specs.Tools.{sum}

module _ (C : Code) where
  -- "A message is k symbols"
  abbrev pub Message : ℕ → List ℕ → Type 0
  Message k f = (length f ≡ k) × Symbols C f

  -- "the symbol-wise sum"
  abbrev pub added : List ℕ → List ℕ → List ℕ
  added f g = plus (numbers C) f g

  -- "multiplying .. by a symbol"
  abbrev pub multiplied : ℕ → List ℕ → List ℕ
  multiplied c f = scaled (numbers C) c f

  -- "two matrices whose sum is accepted": `add` answers no refusal
  abbrev pub Accepted : Held → Held → Type 0
  Accepted h o = (add_answer C h o).number ≡ 0

-- "the sum of products of equal places"
abbrev pub products : List ℕ → List ℕ → ℕ
products d e = sum (length d) (λ (j : ℕ). get_or d j 0 * get_or e j 0)

-- in how many of n positions two words agree, and in how many they differ
abbrev pub agreeing : ℕ → List ℕ → List ℕ → ℕ
agreeing n c d = sum n (λ (i : ℕ). cond (eqb (get_or c i 0) (get_or d i 0)) 1 0)

abbrev pub differing : ℕ → List ℕ → List ℕ → ℕ
differing n c d = sum n (λ (i : ℕ). cond (eqb (get_or c i 0) (get_or d i 0)) 0 1)
