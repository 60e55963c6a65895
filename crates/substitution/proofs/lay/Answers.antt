-- One law of Substitution lays an entry more.
use Rattle.std.proofs.Common.{arith, ◌+◌}
use Rattle.alphabet.specs.Codes.{code_on}
use Rattle.root_tree.proofs.Arrays.{place_within}
use Rattle.root_tree.proofs.Roots.{set_symbols}
use Rattle.substitution.proofs.Substitution.{laid_more}
use Rattle.substitution.proofs.lay.Goals as goal

-- column a + b is one of the array's
pub bounds-p-a : goal.bounds-p-a
bounds-p-a c =
    let a = c.args in
    let b = c.loop-b.b in
    let i = place_within a.h (a.a + b) b a.w (omega arith) (omega arith) in
    omega arith

-- entry b goes to row b of column a + b
pub loop-b-preserved : goal.loop-b-preserved
loop-b-preserved c =
    let l = c.loop-b in
    let a = c.args in
    record {
      symbols = λ w sc sp. set_symbols (code_on w) l.p _ _ (sc l.b) (l.invariant.symbols w sc sp);
      laid = laid_more a.h a.w a.a a.col.now a.p.now l.b l.p l.invariant.laid (omega arith) (omega arith) (omega arith);
    }
