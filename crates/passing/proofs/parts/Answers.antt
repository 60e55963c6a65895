-- A round goes a step along the walk, and its coefficient gives to the row of its power of y.
use Rattle.std.proofs.Common.{◌+◌, ◌≡◌, ◌<◌, ◌∙◌, arith}
use Rattle.alphabet.specs.Codes.{code_on}
use Rattle.definitions.specs.Limits.{greatest_count}
use Rattle.instances.proofs.Codes.{field_on}
use Rattle.monomials.proofs.Walk.{walked_le, walk_begins, walk_stays, walk_turns}
use Rattle.monomials.specs.Walk.{walked}
use Rattle.passing.proofs.Gathered.{parts_none, parts_more}
use Rattle.passing.proofs.parts.Goals as goal
use Rattle.passing.proofs.parts.Goals.{then-v-x, else-v-x}

pub loop-coefficient-init : goal.loop-coefficient-init
loop-coefficient-init c =
    let a = c.args in
    let given = c.requires.symbols in
    (walk_begins a.v, (omega arith, omega arith, omega arith), parts_none (code_on a.alphabet) (field_on a.alphabet) a.v a.px.now a.coefficients.now given.1 given.0)

-- The walk stays at its degree or turns to the next.
pub loop-coefficient-preserved : goal.loop-coefficient-preserved
loop-coefficient-preserved c =
    let a = c.args in
    let k = c.loop-coefficient.coefficient-index in
    let w = walked a.v (k + 1) in
    let here = c.loop-coefficient.invariant.0 in
    let given = c.requires.symbols in
    let next : (c.if-v-x.x ≡ w.0) × (c.if-v-x.y ≡ w.1) × (c.if-v-x.degree ≡ w.2) =
    elim c.if-v-x.branch [
      | then-v-x b ↦
          let r = walk_stays a.v k _ _ _ here.0 here.1 here.2 b.if-v-x.true in
          (b.x-is ∙ r.0, b.y-is ∙ r.1, b.degree-is ∙ r.2)
      | else-v-x b ↦
          let r = walk_turns a.v k _ _ _ here.0 here.1 here.2 b.if-v-x.false in
          (b.x-is ∙ r.0, b.y-is ∙ r.1, b.degree-is ∙ r.2)
    ] in
    let small = walked_le a.v c.requires.v_nonzero.0 (k + 1) in
    let low : c.loop-coefficient.y < greatest_count = omega arith in (
      next,
      (omega arith, omega arith, omega arith),
      parts_more (code_on a.alphabet) (field_on a.alphabet) a.v a.px.now a.coefficients.now given.1 given.0 k _ _ here.0 here.1
          c.loop-coefficient.rows _ low c.loop-coefficient.invariant.2 c.add_multiple.ensures,
    )
