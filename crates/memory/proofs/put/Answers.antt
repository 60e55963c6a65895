-- Each turn lays one byte more, and after the last the part is laid.
use Rattle.std.proofs.Common.{◌≡◌, ◌+◌, arith, get_or, length, take, refl, ap, ◌∙◌}
use lib.ListN.{length-set}
use lib.Seq.{take-length}
use Rattle.memory.proofs.Laid.{laid_none, laid_turned}
use Rattle.memory.specs.Laid.{laid}
use Rattle.memory.proofs.put.Goals as goal

pub loop-j-init : goal.loop-j-init
loop-j-init c = (refl, laid_none c.args.out.now c.args.at)

pub loop-j-preserved : goal.loop-j-preserved
loop-j-preserved c =
    let a = c.args in
    let l = c.loop-j in (
      length-set l.out (a.at + l.j) (get_or a.part.now l.j 0) ∙ l.invariant.0,
      laid_turned a.out.now a.part.now l.out a.at l.j _ (omega arith) (omega arith) l.invariant.1 refl,
    )

-- The loop has ended at the part's length, so the whole part is laid.
pub returns : goal.returns
returns c =
    let a = c.args in
    let e : c.loop-j.j ≡ length a.part.now = omega arith in
    c.loop-j.invariant.1 ∙ ap (laid a.out.now a.at) (ap (λ n. take n a.part.now) e ∙ take-length a.part.now)
