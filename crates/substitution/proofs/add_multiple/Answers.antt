-- One law of Shifting adds the multiple in one column more.
use Rattle.std.proofs.Common.{◌≢◌, ◌+◌, ◌*◌, arith, ap, get_or}
use lib.Bits.{bit_xor}
use Rattle.alphabet.specs.Codes.{code_on}
use Rattle.algebra.proofs.Elements.{plus_symbol, times_symbol}
use Rattle.definitions.specs.Field.{sum_of}
use Rattle.instances.proofs.Codes.{field_on}
use Rattle.root_tree.proofs.Roots.{set_symbols}
use Rattle.substitution.proofs.Shifting.{added_more}
use Rattle.substitution.proofs.add_multiple.Goals as goal

-- Entry `to` becomes the sum of itself and the multiple. That is a symbol, since both are.
pub loop-a-preserved : goal.loop-a-preserved
unfolding sum_of
loop-a-preserved c =
    let l = c.loop-a in
    let a = c.args in
    let C = code_on a.alphabet in
    let F = field_on a.alphabet in
    let x = get_or l.p (l.a * a.h + a.to) 0 in
    let y = get_or l.p (l.a * a.h + a.from) 0 in
    let product = times_symbol C F a.g y c.requires.to_lt_from.3 (l.invariant.symbols (l.a * a.h + a.from)) in
    let sum = plus_symbol C F x (C.times a.g y) (l.invariant.symbols (l.a * a.h + a.to)) product in
    let e = ap (bit_xor x) c.look.ensures in
    let differ : a.to ≢ a.from = omega arith in
    record {
      symbols = set_symbols C l.p _ _ (rw e sum) l.invariant.symbols;
      added = added_more C a.h a.w a.to a.from a.g a.p.now l.a _ l.p l.invariant.added (omega arith) (omega arith) (omega arith) differ (omega arith) e;
    }
