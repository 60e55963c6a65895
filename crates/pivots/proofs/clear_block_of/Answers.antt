-- The table of the multiples of row j is made before the loop, and each pass takes one of them from one
-- more of the listed rows.
use Rattle.std.proofs.Common.{◌<◌, [], get_or, arith, ◌∙◌}
use Rattle.alphabet.specs.Codes.{code_on}
use Rattle.pivots.proofs.Blocks.{less_block, rows_done}
use Rattle.pivots.proofs.Listing.{target_at}
use Rattle.instances.proofs.Codes.{field_on}
use Rattle.pivots.proofs.clear_block_of.Goals as goal

-- The row that the pass takes from is there.
pub bounds-system-t : goal.bounds-system-t
bounds-system-t g c =
    let at = target_at (code_on c.args.alphabet) _ _ _ _ _ _ _ _ _ c.requires.target_rows c.loop-target.invariant c.loop-target-test.true c.from-t.ensures c.from-x.ensures in
    at.room

-- The factor of the pass is a symbol.
pub bounds-times-x : goal.bounds-times-x
bounds-times-x g c =
    let at = target_at (code_on c.args.alphabet) _ _ _ _ _ _ _ _ _ c.requires.target_rows c.loop-target.invariant c.loop-target-test.true c.from-t.ensures c.from-x.ensures in
    let symbol : c.from-x.result < (code_on c.args.alphabet).symbols = at.symbol in
    omega arith

-- The row has the width of a row.
pub add-requires : goal.add-requires
add-requires g c =
    let at = target_at (code_on c.args.alphabet) _ _ _ _ _ _ _ _ _ c.requires.target_rows c.loop-target.invariant c.loop-target-test.true c.from-t.ensures c.from-x.ensures in
    (c.requires.in_row.0, at.wide)

-- The row has lost its factor times row j in this block.
pub loop-target-preserved : goal.loop-target-preserved
loop-target-preserved g c =
    let C = code_on c.args.alphabet in
    let at = target_at C _ _ _ _ _ _ _ _ _ c.requires.target_rows c.loop-target.invariant c.loop-target-test.true c.from-t.ensures c.from-x.ensures in
    let less = less_block C _ _ (get_or c.args.system.now c.args.j []) _ _ _ _ at.symbol c.block-first.ensures c.multiples-times.ensures c.add.ensures in
    rows_done C (field_on c.args.alphabet) _ _ _ _ _ _ _ _ _ _ _ _ c.loop-target-test.true c.requires.system c.requires.target_rows.0 c.loop-target.invariant
    at.row at.factor at.symbol (c.add.ensures.size ∙ at.wide) less
