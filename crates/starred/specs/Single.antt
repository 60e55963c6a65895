-- Single symbols: of each position one symbol holds all the weight.
-- Assumes nothing.
use Rattle.std.specs.Prelude.{cond, List, [], ◌∷◌, ◌++◌, map, ℕ, eqb}
use Rattle.definitions.specs.Field.{Code, sixteen}
use Rattle.definitions.specs.Tools.{below}

-- w at each position's symbol, 0 at every other; a position whose number is no symbol is an erased mark
unfoldable pub single : Code → ℕ → List ℕ → List ℕ
single C w [] = []
single C w (s ∷ word) = map (λ (b : ℕ). cond (eqb b s) w 0) (below C.symbols) ++ single C w word

-- "Single symbols with L = 1 are called hard words"
abbrev pub hard_word : List ℕ → List ℕ
hard_word word = single sixteen 1 word
