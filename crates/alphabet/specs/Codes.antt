-- The code of each alphabet.
-- Assumes nothing.
use Rattle.std.specs.Prelude.{ℕ, ◌*◌}
use Rattle.definitions.specs.Field.{Code, sum_of, product_of}
use Rattle.alphabet.specs.declared.Alphabet.{Alphabet}
use Rattle.alphabet.specs.declared.Alphabet.TheVariants.{Sixteen, ThirtyTwo}

-- "the field width"
abbrev pub width_on : Alphabet → ℕ
width_on Sixteen = 4
width_on ThirtyTwo = 5

-- "α⁴ = α + 1", and "α⁵ = α² + 1": the bits of x⁴+x+1 are those of 19, of x⁵+x²+1 those of 37
abbrev pub modulus_on : Alphabet → ℕ
modulus_on Sixteen = 19
modulus_on ThirtyTwo = 37

-- "Symbols are 0 to 15", and "Symbols 0 to 31"
abbrev pub symbols_on : Alphabet → ℕ
symbols_on Sixteen = 16
symbols_on ThirtyTwo = 32

-- "n up to 31"
abbrev pub positions_on : Alphabet → ℕ
positions_on Sixteen = 15
positions_on ThirtyTwo = 31

-- written out, so that each number goes by cases: of Sixteen it is the page's `sixteen`, of ThirtyTwo its `thirty_two`
abbrev pub code_on : Alphabet → Code
code_on w = record { symbols = symbols_on w; positions = positions_on w; plus = sum_of; times = product_of (width_on w) (modulus_on w); α = 2 }

-- the room that either alphabet fits in
abbrev pub most_symbols : ℕ
most_symbols = 32

abbrev pub most_positions : ℕ
most_positions = 31

abbrev pub most_places : ℕ
most_places = most_symbols * most_positions
