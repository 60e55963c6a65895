-- A row that is stored in the front is stored in the whole, whose end has zeros.
use Rattle.std.proofs.Common.{◌<◌, arith, sym, subst, length, length-append}
use Rattle.std.proofs.Math.ListN.{replicate}
use Rattle.std.proofs.lemmas.List.{take-append-drop, set-append_left}
use Rattle.alphabet.specs.Codes.{code_on}
use Rattle.definitions.specs.Limits.{greatest_level, greatest_count}
use Rattle.instances.proofs.Codes.{field_on}
use Rattle.passing.proofs.Rows.{PowersTo, row_symbols, row_first, row_moved, powers_none, powers_more}
use Rattle.passing.proofs.powers.Goals as goal

-- Nothing is filled in yet, and the row of the power 0 is 1.
pub loop-power-init : goal.loop-power-init
loop-power-init c =
    let a = c.args in
    let C = code_on a.alphabet in
    let F = field_on a.alphabet in
    let zeros = replicate greatest_count (replicate greatest_level 0) in
    (row_first C F a.c c.requires.0, subst (PowersTo C a.c 0) (sym (take-append-drop a.count zeros)) (powers_none C F a.c c.requires.0))

-- a row of derivatives is one of symbols
pub moved-row-requires : goal.moved-row-requires
moved-row-requires c =
    let a = c.args in
    let at = c.loop-power in
    let symbol = c.requires.0 in
    (symbol, row_symbols (code_on a.alphabet) (field_on a.alphabet) a.c symbol at.power-index at.row at.invariant.0)

-- The row is stored, and moved to that of the next power.
pub loop-power-preserved : goal.loop-power-preserved
loop-power-preserved c =
    let a = c.args in
    let C = code_on a.alphabet in
    let F = field_on a.alphabet in
    let at = c.loop-power in
    let symbol = c.requires.0 in
    let size = simp length-append at at.invariant.1.size in
    let inside : at.power-index < length at.power-items = omega arith in (
      row_moved C F a.c symbol at.power-index at.row c.moved-row.result at.invariant.0 c.moved-row.ensures,
      rw (set-append_left _ _ _ _ inside) at (powers_more C F a.c symbol at.power-index _ at.row (omega arith) at.invariant.1 at.invariant.0),
    )
