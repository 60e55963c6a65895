-- Messages and codewords of document 01.
-- Assumes nothing.
use mathlib.Core.List.{List, [], ◌∷◌, map, flat_map}
use Rattle.std.specs.Prelude.{ℕ, zero, suc, ◌<◌, get_or}
use Rattle.definitions.specs.Field.{Code, numbers, power, value}
use Rattle.definitions.specs.Tools.{below}

-- every entry of f is a symbol
abbrev pub Symbols : Code → List ℕ → Type 0
Symbols C f = (j : ℕ) → get_or f j 0 < C.symbols

-- "xᵢ = αⁱ"
abbrev pub point : Code → ℕ → ℕ
point C i = power (numbers C) C.α i

-- "The codeword has n symbols, f at xᵢ = αⁱ, i = 0 to n-1"
abbrev pub codeword : Code → ℕ → List ℕ → List ℕ
codeword C n f = map (λ (i : ℕ). value (numbers C) (point C i) f) (below n)

-- "A message is k symbols": all of them, "ordered by f₀, then f₁ and so on, smaller symbol first"
unfoldable pub messages : Code → ℕ → List (List ℕ)
messages C zero = [] ∷ []
messages C (suc k) = flat_map (λ (c : ℕ). map (λ (f : List ℕ). c ∷ f) (messages C k)) (below C.symbols)
