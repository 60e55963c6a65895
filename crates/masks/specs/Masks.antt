-- The masks of an order, and what they leave of a row: the entries whose power has, of the bits asked for, just those of the order.
-- Assumes nothing.
use Rattle.std.specs.Prelude.{cond, List, ℕ, ◌*◌, eqb, get_or}
use Rattle.std.specs.Int.Bits.{bit_and}
use Rattle.blocks.specs.Row.{block, Front, filled}

-- 255 where a power has, of the bits asked for, just those of the order, else 0
abbrev pub mask_byte : ℕ → ℕ → ℕ → ℕ
mask_byte e asked order = cond (eqb (bit_and e asked) order) 255 0

-- entry k of what the masks of an order leave
abbrev pub kept_entry : List ℕ → List ℕ → ℕ → ℕ → ℕ → ℕ
kept_entry row es asked order k = bit_and (get_or row k 0) (mask_byte (get_or es k 0) asked order)

-- what they leave of a block
abbrev pub KeptBlock : List ℕ → List ℕ → ℕ → ℕ → List ℕ → Type 0
KeptBlock a es asked order r = Front block (kept_entry a es asked order) r

-- and of the first blocks of a row
abbrev pub kept_row : ℕ → List ℕ → List ℕ → ℕ → ℕ → List ℕ
kept_row blocks row es asked order = filled (blocks * block) (kept_entry row es asked order)
