-- Each round writes the value at the point of its position and goes on to the next point.
use Rattle.std.proofs.Common.{arith}
use Rattle.alphabet.proofs.Sizes.{sized}
use Rattle.alphabet.specs.Codes.{code_on}
use Rattle.code.proofs.Encoding.{first_point, next_point, point_so_far, none_written, symbol_more}
use Rattle.instances.proofs.Codes.{field_on}
use Rattle.code.proofs.inside.encode_into.Goals as goal

pub loop-symbol-init : goal.loop-symbol-init
loop-symbol-init c = let C = code_on c.args.alphabet in (first_point C, none_written C c.args.f.now _)

-- the point x is a symbol, as both calls of a round ask
pub value_at-requires-clause-x_bound : goal.value_at-requires-clause-x_bound
value_at-requires-clause-x_bound c =
    let w = c.args.alphabet in
    point_so_far (code_on w) (field_on w) c.loop-symbol.symbol-index c.loop-symbol.x c.loop-symbol.invariant.0

pub look-x-requires : goal.look-x-requires
look-x-requires c =
    let w = c.args.alphabet in
    let z = (sized w).least in
    (omega arith, point_so_far (code_on w) (field_on w) c.loop-symbol.symbol-index c.loop-symbol.x c.loop-symbol.invariant.0)

pub loop-symbol-preserved : goal.loop-symbol-preserved
loop-symbol-preserved c =
    let C = code_on c.args.alphabet in
    let at = c.loop-symbol in (
      next_point C at.symbol-index at.x c.look-x.result at.invariant.0 c.look-x.ensures,
      symbol_more C c.args.f.now _ at.symbol-items at.symbol-index at.x c.value_at.result (omega arith) at.invariant.1 at.invariant.0
          c.value_at.ensures,
    )
