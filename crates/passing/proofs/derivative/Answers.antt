-- A round's two rows have one number, each among its rows.
use Rattle.std.proofs.Common.{◌≡◌, [], arith, get_or, length, length-take, take, sym, ◌∙◌}
use Rattle.std.proofs.lemmas.List.{get_or-take, length_push}
use Rattle.std.proofs.lemmas.Slice.Zip.{zip_turn}
use Rattle.algebra.proofs.Linear.{dot_none}
use Rattle.alphabet.specs.Codes.{code_on}
use Rattle.definitions.specs.Field.{sum_of, numbers}
use Rattle.passing.proofs.Summed.{product_more}
use Rattle.passing.proofs.derivative.Goals as goal
use Rattle.passing.proofs.derivative.Goals.{In-Some}

-- the number of both is how many rounds there were
met : (c : In-Some) → (let n = length c.loop-row.yielded in (c.in-Some.row.now ≡ get_or c.args.rows.now n []) × (c.in-Some.power.now ≡ get_or c.args.py.now n []))
met c =
    let a = c.args in
    let turn =
    zip_turn (take a.h a.rows.now) a.py.now c.loop-row.yielded _ _ c.next.new.self _ (cc) (cc) c.loop-row.yielded_by (c.in-Some.row, c.in-Some.power) c.in-Some.is
    c.next.ensures.steps in
    (turn.2 [] ∙ get_or-take a.h a.rows.now _ [] (omega (arith, turn.0, length-take a.h a.rows.now)), turn.3 [])

pub loop-row-init : goal.loop-row-init
loop-row-init c = sym (dot_none (numbers (code_on c.args.alphabet)) _ _)

-- All rows are rows of symbols.
pub look-sum-requires : goal.look-sum-requires
look-sum-requires c =
    let a = c.args in
    let n = length c.loop-row.yielded in
    let is = met (goal.at.look-sum-requires c).In-Some in
    rw (is.0, is.1) (c.requires.symbol_rows.0 n a.s, c.requires.symbol_rows.1 n a.t)

-- The product of two entries of that number is added.
pub loop-row-preserved : goal.loop-row-preserved
unfolding sum_of
loop-row-preserved c =
    let a = c.args in
    let is = met (goal.at.loop-row-preserved c).In-Some in
    product_more (code_on a.alphabet) a.rows.now a.py.now a.s a.t _ _ _ _ _ _ is.0 is.1 (length_push _ (c.in-Some.row, c.in-Some.power)) c.loop-row.invariant c.look-sum.ensures
