-- Zeros are laid over the column, and its cost is taken away.
use Rattle.std.proofs.Common.{refl, arith}
use Rattle.edits.proofs.Rightly.{clear_refused, clear_moves, clear_right_done}
use Rattle.edits.proofs.clear_right.Goals as goal

-- An entry is above 5: the lowest of them is refused, and the record is as it was.
pub returns-in-Some : goal.returns-in-Some
returns-in-Some c =
    let a = c.args in
    clear_refused a.alphabet a.n a.cost a.totals.now a.entries.now c.requires.entries_value a.position _ c.requires.n_bound refl
    c.in-Some.bad c.in-Some.ensures

-- The cost of the column and that of the rest are the stored cost.
pub overflow_sub-result : goal.overflow_sub-result
overflow_sub-result c =
    let a = c.args in
    let moved = clear_moves a.alphabet a.n a.cost a.totals.now a.entries.now c.requires.entries_value a.position
    c.symbols-symbols.result c.requires.n_bound c.symbols-symbols.ensures c.cost-of_column.result c.cost-of_column.ensures in
    omega arith

-- No entry is above 5: the column is zeros, and so is its total; its cost is taken off the stored one.
pub returns : goal.returns
returns c =
    let a = c.args in
    clear_right_done a.alphabet a.n a.cost a.totals.now a.entries.now c.requires.entries_value a.position
    c.symbols-symbols.result c.requires.n_bound c.symbols-symbols.ensures
    c.in_default.ensures c.cost-of_column.result c.cost-of_column.ensures c.clear.new.out c.clear.ensures
