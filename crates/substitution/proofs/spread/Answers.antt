-- `lay` lays one column, and one law of Substitution adds it to those before.
use Rattle.std.proofs.Common.{◌≡◌, ◌+◌, ◌-◌, ◌*◌, arith, drop}
use Rattle.alphabet.specs.Codes.{code_on}
use Rattle.algebra.proofs.Elements.{zero_symbol}
use Rattle.definitions.proofs.Symbols.{drop_symbols, take_symbols}
use Rattle.instances.proofs.Codes.{field_on}
use Rattle.root_tree.specs.Tree.{zeros}
use Rattle.substitution.specs.Array.{places}
use Rattle.substitution.proofs.Substitution.{spread_none, spread_more, zeros_symbols}
use Rattle.substitution.proofs.spread.Goals as goal

-- no column is laid, and all is zero
pub loop-a-init : goal.loop-a-init
unfolding zeros
loop-a-init c =
    let a = c.args in
    record {
      symbols = λ w _. zeros_symbols (code_on w) (field_on w) places;
      spread = spread_none a.h a.w a.p.now places;
    }

-- Column a is the part of the array from a h on, of h entries.
pub loop-a-preserved : goal.loop-a-preserved
loop-a-preserved c =
    let l = c.loop-a in
    let a = c.args in
    let p = a.p.now in
    let height : l.a * a.h + a.h - l.a * a.h ≡ a.h = omega arith in
    record {
      symbols = λ w s.
          let rest = drop_symbols (code_on w) (l.a * a.h) p s in
          let column = take_symbols (code_on w) (zero_symbol (code_on w) (field_on w)) a.h (drop (l.a * a.h) p) rest in
          rw height at c.lay.ensures.symbols w column (l.invariant.symbols w s);
      spread = spread_more a.h a.w p l.a l.q c.lay.new.p l.invariant.spread (rw height at c.lay.ensures.laid);
    }
