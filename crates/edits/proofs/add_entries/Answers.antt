-- What the loop reads at j is the old entry still.
use Rattle.std.proofs.Common.{◌+◌, ℕ, ap, get_or, arith}
use Rattle.definitions.proofs.Loops.{map_none, map_more}
use Rattle.edits.proofs.Entries.{place_untouched}
use Rattle.edits.proofs.add_entries.Goals as goal

pub loop-j-init : goal.loop-j-init
loop-j-init c = map_none _ _

pub loop-j-preserved : goal.loop-j-preserved
loop-j-preserved c =
    map_more _ _ _ _ _ (omega arith) c.loop-j.invariant
    (ap (λ (x : ℕ). x + get_or c.args.others.now c.loop-j.j 0) (place_untouched _ _ _ _ c.loop-j.invariant))
