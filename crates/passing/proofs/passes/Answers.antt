-- A round's rows are those of the point of its position, so its answer is that of the position.
use Rattle.std.proofs.Common.{◌<◌, ◌≡◌, true, false, arith, sym, ap, ◌∙◌, add-one}
use Rattle.algebra.proofs.Numbers.{point_symbol}
use Rattle.alphabet.proofs.Sizes.{sized}
use Rattle.alphabet.specs.Codes.{code_on}
use Rattle.definitions.proofs.Codeword.{power_zero, power_suc}
use Rattle.definitions.proofs.Every.{every_none, every_more, every_but}
use Rattle.definitions.specs.Code.{point}
use Rattle.definitions.specs.Field.{numbers}
use Rattle.instances.proofs.Codes.{field_on}
use Rattle.passing.proofs.Tests.{degree_low, powers_low, column_within, column_low, position_agrees}
use Rattle.passing.proofs.passes.Goals as goal

pub loop-i-init : goal.loop-i-init
loop-i-init c = (sym (power_zero (numbers (code_on c.args.alphabet)) 2), every_none _)

-- The degree limit is below the number of coefficients, and so are the powers of y.
pub overflow_add-degree : goal.overflow_add-degree
overflow_add-degree c = let low = degree_low (code_on c.args.alphabet) c.requires in omega arith

-- the point x is a symbol
pub powers-px-requires : goal.powers-px-requires
powers-px-requires c =
    let C = code_on c.args.alphabet in
    (rw c.loop-i.invariant.0 (point_symbol C (field_on c.args.alphabet) c.loop-i.i), degree_low C c.requires)

pub overflow_add-degree-in-loop-i : goal.overflow_add-degree-in-loop-i
overflow_add-degree-in-loop-i c = let low = powers_low (code_on c.args.alphabet) c.requires in omega arith

-- The entries of the position lie within those of n positions.
pub column_passes-requires-clause-h_le_greatest_count : goal.column_passes-requires-clause-h_le_greatest_count
column_passes-requires-clause-h_le_greatest_count c =
    let C = code_on c.args.alphabet in
    let given = c.requires in
    let left : c.loop-i.i < c.args.n = omega arith in
    rw c.symbols.ensures (powers_low C given, column_within C given c.loop-i.i left, column_low C given c.loop-i.i left)

-- A position does not pass.
pub returns-then-not-column_passes : goal.returns-then-not-column_passes
returns-then-not-column_passes c =
    let w = c.args.alphabet in
    let left : c.loop-i.i < c.args.n = omega arith in
    let is = position_agrees (code_on w) c.requires c.loop-i.i left (field_on w) c.loop-i.invariant.0 c.symbols.ensures c.powers-px.ensures c.parts-rows.ensures c.column_passes.ensures in
    let other : c.column_passes.result ≡ false = c.if-not-column_passes.true in
    sym (every_but _ c.args.n c.loop-i.i left (sym is ∙ other))

pub look-x-requires : goal.look-x-requires
look-x-requires c =
    let w = c.args.alphabet in
    let least = (sized w).least in
    (omega arith, rw c.loop-i.invariant.0 (point_symbol (code_on w) (field_on w) c.loop-i.i))

-- A position passes: x goes on to the next point.
pub loop-i-preserved : goal.loop-i-preserved
loop-i-preserved c =
    let w = c.args.alphabet in
    let C = code_on w in
    let i = c.loop-i.i in
    let left : i < c.args.n = omega arith in
    let is = position_agrees C c.requires i left (field_on w) c.loop-i.invariant.0 c.symbols.ensures c.powers-px.ensures c.parts-rows.ensures c.column_passes.ensures in
    let passes : c.column_passes.result ≡ true = c.if-not-column_passes.false in (
      c.look-x.ensures ∙ ap (C.times 2) c.loop-i.invariant.0 ∙ sym (power_suc (numbers C) 2 i) ∙ ap (point C) (sym (add-one i)),
      every_more _ i c.loop-i.invariant.1 (sym is ∙ passes),
    )
