-- The part that is summed is the whole column, or what the list has of it.
use Rattle.std.proofs.Common.{◌∙◌, ◌+◌, ◌*◌, length, arith}
use Rattle.reliabilities.proofs.Passed.{cut_sum}
use Rattle.reliabilities.proofs.column_sum.Goals as goal

pub returns-then-first-symbols : goal.returns-then-first-symbols
returns-then-first-symbols c =
    let l = c.args.reliabilities.now in
    let symbols = c.symbols-symbols.result in
    let first = symbols * c.args.i in
    rw c.symbols-symbols.ensures at (c.sum_of.ensures ∙ cut_sum l first symbols (first + symbols) (omega arith))

pub returns-else-first-symbols : goal.returns-else-first-symbols
returns-else-first-symbols c =
    let l = c.args.reliabilities.now in
    let symbols = c.symbols-symbols.result in
    rw c.symbols-symbols.ensures at (c.sum_of-else-first-symbols.ensures ∙ cut_sum l (symbols * c.args.i) symbols (length l) (omega arith))
