-- The new total and the new cost are told by the old ones.
use Rattle.std.proofs.Common.{arith}
use Rattle.edits.proofs.Rightly.{set_refused, set_small, set_moves, set_right_done}
use Rattle.edits.proofs.set_right.Goals as goal

-- An entry is above 5: the lowest of them is refused, and the record is as it was.
pub returns-in-Some : goal.returns-in-Some
returns-in-Some c =
    let a = c.args in
    set_refused a.alphabet a.n a.cost a.totals.now a.entries.now c.requires.entries_value a.position a.symbol a.entry
    c.symbols.result c.requires.n_bound c.symbols.ensures c.in-Some.bad c.in-Some.ensures

-- What is stored of entries that are not above 5 is small, so the sums fit.
pub overflow_add-totals : goal.overflow_add-totals
overflow_add-totals c =
    let a = c.args in
    let small = set_small a.alphabet a.n a.cost a.totals.now a.entries.now c.requires.entries_value a.position a.symbol a.entry
    c.symbols.result c.requires.n_bound c.symbols.ensures c.in_default.ensures in
    omega arith

-- The new total and the old entry are the old total and the new entry, so the old entry can be taken away; the cost likewise.
pub overflow_sub-totals : goal.overflow_sub-totals
overflow_sub-totals c =
    let a = c.args in
    let moved = set_moves a.alphabet a.n a.cost a.totals.now a.entries.now c.requires.entries_value a.position a.symbol a.entry
    c.symbols.result c.requires.n_bound c.symbols.ensures in
    omega arith

pub overflow_add-result : goal.overflow_add-result
overflow_add-result c =
    let a = c.args in
    let small = set_small a.alphabet a.n a.cost a.totals.now a.entries.now c.requires.entries_value a.position a.symbol a.entry
    c.symbols.result c.requires.n_bound c.symbols.ensures c.in_default.ensures in
    omega arith

pub overflow_sub-result : goal.overflow_sub-result
overflow_sub-result c =
    let a = c.args in
    let moved = set_moves a.alphabet a.n a.cost a.totals.now a.entries.now c.requires.entries_value a.position a.symbol a.entry
    c.symbols.result c.requires.n_bound c.symbols.ensures in
    omega arith

-- No entry is above 5: the entry is set, and the total and the cost lose the old one and gain it.
pub returns : goal.returns
returns c =
    let a = c.args in
    let moved = set_moves a.alphabet a.n a.cost a.totals.now a.entries.now c.requires.entries_value a.position a.symbol a.entry
    c.symbols.result c.requires.n_bound c.symbols.ensures in
    set_right_done a.alphabet a.n a.cost a.totals.now a.entries.now c.requires.entries_value a.position a.symbol a.entry
    c.symbols.result c.requires.n_bound c.symbols.ensures c.in_default.ensures _ _ (omega arith) (omega arith)
