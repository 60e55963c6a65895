-- The row is filled with the powers of y, then with the values at the point, and the rows of the
-- orders are put of it; a point of multiplicity 0 has none.
use Rattle.std.proofs.Common.{◌≡◌, ◌*◌, [], length, sym, ◌∙◌, ap, subst, arith}
use Rattle.std.proofs.lemmas.List.Edits.{sets}
use Rattle.alphabet.specs.Codes.{code_on}
use Rattle.blocks.proofs.Filled.{zeros_from}
use Rattle.blocks.specs.Row.{block}
use Rattle.conditions.proofs.MaskedRows.{orders_none, base_symbol}
use Rattle.conditions.specs.MaskedRows.{base_at, masked_point}
use Rattle.definitions.specs.Code.{Symbols}
use Rattle.instances.proofs.Codes.{field_on}
use Rattle.monomials.proofs.Rows.{powers_symbols}
use Rattle.monomials.specs.Rows.{powers_row, values_row}
use Rattle.conditions.proofs.point_rows.Goals as goal
use Rattle.conditions.proofs.point_rows.Goals.{Then-m-eq0}

-- The multiplicity is 0: the point has no order, so no row is put.
none : (c : Then-m-eq0) → (let a = c.args in masked_point (code_on a.alphabet) a.px.now a.n a.blocks a.es.now a.b a.m ≡ [])
none c =
    let a = c.args in
    let C = code_on a.alphabet in
    orders_none a.blocks (values_row C (a.blocks * block) a.px.now (powers_row C a.n (base_at a.b)) a.es.now) a.es.now a.b a.m c.if-m-eq0.true

pub returns-then-m-eq0-clause-value : goal.returns-then-m-eq0-clause-value
returns-then-m-eq0-clause-value c = omega (arith, ap length (none c))

pub returns-then-m-eq0-clause-rows_after : goal.returns-then-m-eq0-clause-rows_after
returns-then-m-eq0-clause-rows_after c = ap (sets c.args.rows.now c.args.at) (sym (none c))

pub powers-requires : goal.powers-requires
powers-requires c =
    let h = base_symbol (code_on c.args.alphabet) (field_on c.args.alphabet) c.args.b (omega arith) in
    let e = c.base_at.ensures in
    (omega arith, omega arith, zeros_from c.args.n)

-- The row is filled with the powers of y, which are symbols.
pub values-requires-clause-symbols : goal.values-requires-clause-symbols
values-requires-clause-symbols c =
    let a = c.args in
    let C = code_on a.alphabet in
    let F = field_on a.alphabet in
    let e = c.powers.ensures ∙ ap (powers_row C a.n) c.base_at.ensures in
    (c.requires.symbols.0, subst (Symbols C) (sym e) (powers_symbols C F a.n (base_at a.b) (base_symbol C F a.b (omega arith))))

pub values-requires-clause-places : goal.values-requires-clause-places
values-requires-clause-places c = (c.requires.symbols.1, omega arith, zeros_from (c.args.blocks * block))
