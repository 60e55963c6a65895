-- The limits of document 01, and of document 02 where an order of it replaced them, each named once.
-- Assumes nothing.
use Rattle.std.specs.Prelude.{ℕ}

-- "From now a column may sum to anything from 0 to 4,096" (document 02, order 1)
abbrev pub greatest_sum : ℕ
greatest_sum = 4096

-- "L up to 5, with entries up to 5" (document 02, order 2)
abbrev pub greatest_level : ℕ
greatest_level = 5

-- "G may be up to 225" (document 02, order 2)
abbrev pub greatest_limit : ℕ
greatest_limit = 225

-- "N(D) above 256"
abbrev pub greatest_count : ℕ
greatest_count = 256

-- "Interpolation room becomes 246" (document 02, order 2)
abbrev pub coefficient_room : ℕ
coefficient_room = 246

-- "list room 20 rows and 20 scores" (document 02, order 2): there are at most so many rows
abbrev pub greatest_rows : ℕ
greatest_rows = 20

-- "s is 0 to 75" (document 02, order 7)
abbrev pub greatest_steps : ℕ
greatest_steps = 75
