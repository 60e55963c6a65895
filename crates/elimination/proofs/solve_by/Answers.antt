-- The entries from j on stay, and each pass finds the entry before those that are found.
use Rattle.std.proofs.Common.{arith}
use Rattle.elimination.proofs.Solving.{solve_more}
use Rattle.instances.proofs.Codes.{field_on}
use Rattle.elimination.proofs.solve_by.Goals as goal

pub loop-s-preserved : goal.loop-s-preserved
loop-s-preserved c =
    let a = c.args in
    let i = c.loop-s.invariant in
    solve_more _ (field_on a.alphabet) a.j c.loop-s.s _ a.system.now a.out.now c.loop-s.out c.requires.symbol_rows (omega arith) (omega arith) (omega arith) i.0 i.1 c.back.ensures
