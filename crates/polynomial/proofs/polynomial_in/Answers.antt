-- The conditions are a system. Its first column that depends on the columns before it is led by 1,
-- solved for, and the polynomial.
use Rattle.std.proofs.Common.{arith, ◌*◌}
use Rattle.alphabet.proofs.Sizes.{sized}
use Rattle.alphabet.specs.Codes.{code_on}
use Rattle.pivots.specs.System.{System, Within}
use Rattle.instances.proofs.Codes.{field_on}
use Rattle.polynomial.proofs.Coefficients.{degree_small, blocks_fit, rows_priced, more, start_system, start_within, polynomial_found}
use Rattle.polynomial.proofs.Empty.{clear_from, clear_system}
use Rattle.blocks.specs.Row.{block, blocks_for}
use Rattle.polynomial.proofs.polynomial_in.Goals as goal
use Rattle.polynomial.proofs.polynomial_in.Goals.{After-matrix_rows-rows}

pub matrix_rows-rows-requires-clause-v_nonzero : goal.matrix_rows-rows-requires-clause-v_nonzero
matrix_rows-rows-requires-clause-v_nonzero c =
    let g = c.requires.given in
    (g.weighted, degree_small _ _ _ _ _ _ _ g, blocks_fit _ _ _ _ _ _ _ g)

-- There are as many conditions as the matrix costs.
pub matrix_rows-rows-requires-clause-matrix_in_bounds : goal.matrix_rows-rows-requires-clause-matrix_in_bounds
matrix_rows-rows-requires-clause-matrix_in_bounds c =
    let e = rows_priced _ _ _ _ _ _ _ c.requires.given in
    (omega arith, clear_from c.args.system.now c.requires.clear.0 (blocks_for c.args.cost * block))

-- The zeros that are lent are a system.
empty : (m : After-matrix_rows-rows) → System (code_on m.args.alphabet) m.args.system.now
empty m = clear_system m.args.system.now m.requires.clear.0 (code_on m.args.alphabet) (field_on m.args.alphabet)

-- So are the conditions that are written into them.
pub first_dependent-leading-requires-clause-system : goal.first_dependent-leading-requires-clause-system
first_dependent-leading-requires-clause-system c =
    let w = c.args.alphabet in
    let z = sized w in
    let before = (goal.at.first_dependent-leading-requires-clause-system c).After-matrix_rows-rows in
    start_system (code_on w) _ _ _ _ _ _ c.requires.given _ _ c.requires.clear.1 c.matrix_rows-rows.ensures.rows_after (field_on w) (omega arith) (empty before)

-- The system has room for their blocks.
within : (m : After-matrix_rows-rows) → Within m.matrix_rows-rows.result (blocks_for m.args.cost) m.matrix_rows-rows.new.rows
within m =
    let e = m.matrix_rows-rows.ensures in
    start_within _ _ _ _ _ _ _ m.requires.given _ _ m.requires.clear.1 e.rows_after _ e.value

pub first_dependent-leading-requires-clause-within : goal.first_dependent-leading-requires-clause-within
first_dependent-leading-requires-clause-within c = within (goal.at.first_dependent-leading-requires-clause-within c).After-matrix_rows-rows

-- The column found is the place of a coefficient: there are fewer rows than monomials.
pub lead-requires : goal.lead-requires
lead-requires c =
    let g = c.requires.given in
    let e = rows_priced _ _ _ _ _ _ _ g in
    let l = more _ _ _ _ _ _ _ g in
    (omega arith, g.room)

pub solve-requires-clause-j_lt_width : goal.solve-requires-clause-j_lt_width
solve-requires-clause-j_lt_width c =
    let w = within (goal.at.solve-requires-clause-j_lt_width c).After-matrix_rows-rows in
    let e = rows_priced _ _ _ _ _ _ _ c.requires.given in
    let l = more _ _ _ _ _ _ _ c.requires.given in
    (omega arith, omega arith, omega arith)

-- The column found is led by 1 and solved for: so its coefficients interpolate, and it is their place.
pub returns : goal.returns
returns c =
    let w = c.args.alphabet in
    let z = sized w in
    let m = c.matrix_rows-rows.ensures in
    let e = c.first_dependent-leading.ensures in
    let before = (goal.at.returns c).After-matrix_rows-rows in
    polynomial_found (code_on w) (field_on w) (omega arith) (λ z. omega arith) _ _ _ _ _ _ c.requires.given _ _ _ (empty before) c.requires.clear.1
    m.rows_after _ _ m.value e.upper_bound e.eliminated e.reduced _ _ c.lead.ensures c.solve.ensures
