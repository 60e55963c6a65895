-- Each pass writes one row more behind those listed, and counts it where its entry is not zero.
use Rattle.std.proofs.Common.{◌≡◌, ◌≤◌, ◌<◌, length, refl, arith, rules}
use Rattle.pivots.proofs.Listing.{counted, rows_none, rows_more, rows_taken}
use Rattle.pivots.proofs.factors.Goals as goal

pub loop-t-init : goal.loop-t-init
loop-t-init c = (omega arith, search rules, rows_none c.args.j c.args.system.now c.args.targets.now)

pub loop-t-preserved : goal.loop-t-preserved
loop-t-preserved c =
    let room : c.loop-t.n < length c.loop-t.targets = omega arith in
    let count = counted _ _ c.from-n.ensures in
    let most : c.from-n.result ≤ 1 = count.most in
    (omega arith, search rules, rows_more c.loop-t.t c.args.j _ _ _ _ _ (omega arith) room c.loop-t.invariant.2 refl refl count)

-- The loop has ended at t = rows, so all rows behind j are looked at, and the first n entries list them.
pub returns : goal.returns
returns c =
    let e : c.loop-t.t ≡ c.args.rows = omega arith in
    let within : c.loop-t.n ≤ length c.loop-t.targets = omega arith in
    (omega arith, rows_taken _ _ _ _ _ within (rw e at c.loop-t.invariant.2))
