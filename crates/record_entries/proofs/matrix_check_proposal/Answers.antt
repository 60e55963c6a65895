-- A yes is answered by 1 and a no by 0; a refusal names an entry of the record or, behind those of
-- its n, a coefficient: the value and the place fit sixteen bits.
use Rattle.definitions.specs.Held.{held}
use Rattle.record_entries.proofs.Fits.{held_proposal_narrow}
use Rattle.record_entries.proofs.matrix_check_proposal.Goals as goal

pub proposed-requires : goal.proposed-requires
proposed-requires c =
    let a = c.args in
    let h = held a.n a.cost a.totals.now a.entries.now in
    rw c.check_proposal_of_parts.ensures (held_proposal_narrow a.alphabet h a.k a.degree a.coefficients.now)
