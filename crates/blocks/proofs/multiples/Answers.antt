-- Each turn makes of the multiples below h those below twice h: so all are there when h is the number
-- of the symbols.
use Rattle.std.proofs.Common.{◌<◌, arith, rules}
use Rattle.alphabet.specs.Codes.{code_on}
use Rattle.blocks.proofs.Doubling.{doubled_first, doubled_again, doubled_room}
use Rattle.blocks.proofs.multiples.Goals as goal

pub loop-h-init : goal.loop-h-init
loop-h-init g c = (search rules, doubled_first _ _ g.row.SYMBOLS c.requires.all c.requires.symbols)

-- What is filled in lies within the array: h is at most half of the symbols.
pub fill-requires : goal.fill-requires
fill-requires g c =
    let low : c.loop-h.h < (code_on c.args.alphabet).symbols = omega arith in
    let room = doubled_room _ _ c.loop-h.invariant.1 low in
    omega arith

pub loop-h-preserved : goal.loop-h-preserved
loop-h-preserved g c =
    let low : c.loop-h.h < (code_on c.args.alphabet).symbols = omega arith in
    (search rules, doubled_again _ _ c.loop-h.invariant.1 low _ _ c.requires.symbols c.fill.ensures c.doubled-high.ensures)
