-- Each branch knows its alphabet, and the product of its code's symbols and positions is computed
-- there.
use mathlib.Core.Path.{sym, ap}
use Prim.Native.Nat.{ℕ}
use Rattle.alphabet.specs.Codes.{code_on}
use Rattle.alphabet.specs.declared.Alphabet.{Alphabet}
use Rattle.definitions.specs.Held.{places}
use borrow.Author.Rules.{rules}
use Rattle.alphabet.proofs.Alphabet.places.Statement.{statement}
use Rattle.alphabet.proofs.Alphabet.places.Tie as tie

abbrev placesOn : Alphabet → ℕ
placesOn w = places (code_on w)

-- Sixteen symbols at fifteen positions are 240 places.
returns : tie.Need-returns-in-Sixteen
returns c = sym (ap placesOn c.in-Sixteen.is)

-- Thirty-two symbols at thirty-one positions are 992 places.
returns-2 : tie.Need-returns-in-ThirtyTwo
returns-2 c = sym (ap placesOn c.in-ThirtyTwo.is)

pub places_spec : {M : Type 1} → statement M
places_spec = tie.close (tie.spec (λ c. search rules) (λ c. search rules) returns returns-2)
