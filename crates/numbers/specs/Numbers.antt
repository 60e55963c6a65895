-- Numbers of sixteen bits, as the program reads them.
-- Assumes nothing.
use Rattle.std.specs.Prelude.{cond, List, [], map, ℕ, ◌+◌, ◌*◌, ◌/◌, ◌%◌, eqb, length, get_or}
use Rattle.definitions.specs.Tools.{below}

-- "numbers, low byte first": number i is at bytes 2i and 2i + 1
abbrev pub number_at : List ℕ → ℕ → ℕ
number_at bytes i = get_or bytes (2 * i) 0 + 256 * get_or bytes (2 * i + 1) 0

-- the numbers of the bytes; none where a byte is left over, which is a wrong length for any n
abbrev pub numbers_of : List ℕ → List ℕ
numbers_of bytes = cond (eqb (length bytes % 2) 0) (map (number_at bytes) (below (length bytes / 2))) []
