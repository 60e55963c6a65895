-- The loop puts the rows of one symbol more behind those of the symbols below it.
use Rattle.std.proofs.Common.{◌≡◌, ◌+◌, ◌*◌, ◌≤◌, ℕ, length, get_or, sym, ◌∙◌, ap, subst, arith}
use Rattle.std.proofs.lemmas.List.Edits.{sets}
use Rattle.alphabet.proofs.Sizes.{sized}
use Rattle.alphabet.specs.Codes.{code_on}
use Rattle.blocks.specs.Row.{block}
use Rattle.conditions.proofs.Placed.{Joining, joining_none, joining_more, joining_room, joining_clear}
use Rattle.conditions.specs.MaskedRows.{masked_point, point_at}
use Rattle.conditions.proofs.column_rows.Goals as goal
use Rattle.conditions.proofs.column_rows.Goals.{After-point_rows-next}

pub loop-b-init : goal.loop-b-init
loop-b-init c = joining_none

pub point_rows-next-requires-clause-m_in_bounds : goal.point_rows-next-requires-clause-m_in_bounds
point_rows-next-requires-clause-m_in_bounds c =
    let a = c.args in
    let l = c.loop-b in
    let C = code_on a.alphabet in
    let z = (sized a.alphabet).least in
    let room = joining_room l.invariant C.symbols (omega arith) c.requires.column_in_bounds.0 in
    let rows_of = λ (k : ℕ). masked_point C a.px.now a.n a.blocks a.es.now l.b (get_or a.column.now k 0) in
    let read : c.from.result ≡ l.b = omega arith in
    (subst (λ (k : ℕ). l.next + length (rows_of k) ≤ length l.rows) (sym read) room, joining_clear l.invariant (a.blocks * block) c.requires.column_in_bounds.1)

-- The multiplicity that is read is the symbol's, so what is put are its rows.
joined : (c : After-point_rows-next)
    → (let a = c.args in
    Joining (point_at (code_on a.alphabet) a.px.now a.n a.blocks a.es.now a.column.now) a.rows.now a.at (c.loop-b.b + 1) c.point_rows-next.result c.point_rows-next.new.rows)
joined c =
    let a = c.args in
    let l = c.loop-b in
    let p = c.point_rows-next in
    let rows_of = λ (k : ℕ). masked_point (code_on a.alphabet) a.px.now a.n a.blocks a.es.now l.b (get_or a.column.now k 0) in
    let read : c.from.result ≡ l.b = omega arith in
    joining_more l.invariant (p.ensures.value ∙ ap (λ (k : ℕ). l.next + length (rows_of k)) read)
    (p.ensures.rows_after ∙ ap (λ (k : ℕ). sets l.rows l.next (rows_of k)) read)

pub loop-b-preserved : goal.loop-b-preserved
loop-b-preserved c = joined (goal.at.loop-b-preserved c).After-point_rows-next

-- The pass was that of the greatest symbol, so the rows of all symbols are put.
pub returns-2-clause-value : goal.returns-2-clause-value
returns-2-clause-value c =
    let j = joined (goal.at.returns-2-clause-value c).After-point_rows-next in
    let z = (sized c.args.alphabet).least in
    let e : c.loop-b.b + 1 ≡ (code_on c.args.alphabet).symbols = omega arith in
    rw e at j.place

pub returns-2-clause-rows_after : goal.returns-2-clause-rows_after
returns-2-clause-rows_after c =
    let j = joined (goal.at.returns-2-clause-rows_after c).After-point_rows-next in
    let z = (sized c.args.alphabet).least in
    let e : c.loop-b.b + 1 ≡ (code_on c.args.alphabet).symbols = omega arith in
    rw e at j.put
