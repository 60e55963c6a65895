-- The loop puts the row of one order by y more behind those of the lower orders.
use Rattle.std.proofs.Common.{◌≡◌, ◌+◌, ◌*◌, ℕ, set, ◌∙◌, ap, arith}
use Rattle.blocks.specs.Row.{block}
use Rattle.conditions.proofs.Placed.{rows_none, rows_more, clear_behind}
use Rattle.conditions.specs.MaskedRows.{asked_at, kept_order}
use Rattle.definitions.proofs.Tools.{length_map_below}
use Rattle.masks.specs.Masks.{kept_row}
use Rattle.conditions.proofs.order_rows.Goals as goal

pub loop-t-init : goal.loop-t-init
loop-t-init c = rows_none _ _ _

pub keep-requires : goal.keep-requires
keep-requires c =
    let a = c.args in
    let t = c.loop-t.t in
    let size = length_map_below (λ (t : ℕ). kept_row a.blocks a.row.now a.ys.now (asked_at a.b t) t) t in
    let clear = clear_behind a.rows.now c.loop-t.rows (kept_order a.blocks a.row.now a.ys.now a.b t) a.at (a.blocks * block) (a.at + c.from.result) c.requires.2 c.loop-t.invariant (omega arith) in
    (c.requires.1, clear (a.at + c.from.result) (omega arith) (omega arith))

pub loop-t-preserved : goal.loop-t-preserved
loop-t-preserved c =
    let a = c.args in
    let t = c.loop-t.t in
    let kept = c.keep.new.out in
    let place : c.from.result ≡ t = omega arith in
    let is_row = c.keep.ensures ∙ ap (λ (asked : ℕ). kept_row a.blocks a.row.now a.ys.now asked t) c.asked_at.ensures in
    ap (λ (n : ℕ). set c.loop-t.rows (a.at + n) kept) place ∙ rows_more _ a.rows.now a.at c.loop-t.rows t kept c.loop-t.invariant is_row
