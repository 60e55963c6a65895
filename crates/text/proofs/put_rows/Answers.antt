-- Two laws of Putting begin the lines of the rows and add a line to them.
use Rattle.std.proofs.Common.{arith}
use Rattle.alphabet.specs.Codes.{code_on}
use Rattle.text.proofs.Putting.{lines_begun, lines_more}
use Rattle.text.proofs.put_rows.Goals as goal

-- no line is put yet
pub loop-j-init : goal.loop-j-init
loop-j-init c =
    let a = c.args in
    record { short = omega arith; lines = lines_begun (code_on a.alphabet) a.k a.rows.now a.scores.now a.out.now a.at }

-- the line of one row more, that is no longer than the longest
pub loop-j-preserved : goal.loop-j-preserved
loop-j-preserved c =
    let a = c.args in
    let l = c.loop-j in
    let put = c.put_row_of-end in
    record {
      short = omega arith;
      lines = lines_more (code_on a.alphabet) a.k a.rows.now a.scores.now a.out.now l.out put.new.out a.at l.end put.result l.j (omega arith) l.invariant.lines put.ensures.text;
    }
