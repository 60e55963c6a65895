-- The loop puts the rows of one order by x more behind those of the lower orders; for each it keeps
-- of the row what the masks of that order leave, and gives this to the orders by y.
use Rattle.std.proofs.Common.{◌-◌, ◌*◌, ℕ, List, [], get_or, sym, ◌∙◌, ap, subst, arith}
use Rattle.std.proofs.lemmas.List.Edits.{sets}
use Rattle.blocks.proofs.Filled.{filled_zeros, zeros_from}
use Rattle.blocks.specs.Row.{block, ZeroFrom}
use Rattle.conditions.proofs.MaskedRows.{length_order_at}
use Rattle.conditions.proofs.Placed.{joining_none, joining_more, joining_room, joining_clear}
use Rattle.conditions.specs.MaskedRows.{kept_order}
use Rattle.conditions.proofs.orders_rows.Goals as goal

pub loop-s-init : goal.loop-s-init
loop-s-init c = (joining_none, zeros_from (c.args.blocks * block))

pub order_rows-next-requires : goal.order_rows-next-requires
order_rows-next-requires c =
    let a = c.args in
    let l = c.loop-s in
    let many = length_order_at a.blocks a.row.now a.es.now a.b a.m l.s in
    let room = joining_room l.invariant.0 a.m (omega arith) c.requires.0 in
    (omega arith, c.requires.1, joining_clear l.invariant.0 (a.blocks * block) c.requires.2)

pub loop-s-preserved : goal.loop-s-preserved
loop-s-preserved c =
    let a = c.args in
    let l = c.loop-s in
    let o = c.order_rows-next in
    let many = length_order_at a.blocks a.row.now a.es.now a.b a.m l.s in
    let next = o.ensures.value in
    let put = o.ensures.rows_after ∙ ap (λ (part : List ℕ). sets l.rows l.next (kept_order a.blocks part (get_or a.es.now 1 []) a.b (a.m - l.s))) c.keep.ensures in (
      joining_more l.invariant.0 (omega arith) put,
      subst (ZeroFrom (a.blocks * block)) (sym c.keep.ensures) (filled_zeros _ (a.blocks * block) c.requires.1),
    )
