-- Two laws of Putting begin the message's text and add a symbol to it.
use Rattle.std.proofs.Common.{arith}
use Rattle.alphabet.specs.Codes.{code_on}
use Rattle.text.proofs.Putting.{text_begun, text_more}
use Rattle.text.proofs.put_symbols.Goals as goal

-- no symbol is put yet
pub loop-x-init : goal.loop-x-init
loop-x-init c =
    let a = c.args in
    record { short = omega arith; text = text_begun (code_on a.alphabet) a.message.now a.out.now a.at }

-- the text of one symbol more, of at most two digits
pub loop-x-preserved : goal.loop-x-preserved
loop-x-preserved c =
    let a = c.args in
    let l = c.loop-x in
    let put = c.put_symbol-end in
    record {
      short = omega arith;
      text = text_more (code_on a.alphabet) a.message.now a.out.now l.out put.new.out a.at l.end put.result l.x-index (omega arith) (omega arith) l.invariant.text put.ensures.text;
    }
