-- The cost of the record's bytes is within the limit, hence within 225; the bound is not above it,
-- and there are at most 246 coefficients; a refusal names a place of the record: all fit sixteen
-- bits.
use Rattle.definitions.specs.Held.{held}
use Rattle.record_entries.proofs.Fits.{held_interpolation_narrow}
use Rattle.record_entries.proofs.matrix_interpolate.Goals as goal

pub interpolated-requires : goal.interpolated-requires
interpolated-requires c =
    let a = c.args in
    let h = held a.n a.cost a.totals.now a.entries.now in
    held_interpolation_narrow a.alphabet h a.k a.limit a.out.now _ _ c.interpolate_parts.ensures

-- The only end: what `interpolation::interpolate_parts` promises of its answer is true of what
-- crosses.
pub returns : goal.returns
returns c = rw c.interpolated.ensures c.interpolate_parts.ensures
