-- Entry s stood as it was at the loop's beginning, so it is now what it was and its product.
use Rattle.std.proofs.Common.{◌≡◌, ◌+◌, ℕ, arith, get_or, sym, ap, ap₂, ◌∙◌}
use Rattle.alphabet.specs.Codes.{code_on}
use Rattle.blocks.proofs.Blocks.{changed_more}
use Rattle.definitions.specs.Field.{sum_of}
use Rattle.passing.proofs.add_multiple.Goals as goal

pub loop-s-preserved : goal.loop-s-preserved
unfolding sum_of
loop-s-preserved c =
    let a = c.args in
    let C = code_on a.alphabet in
    let at = c.loop-s in
    let sums : ℕ → ℕ = λ k. C.plus (get_or a.row.now k 0) (C.times (get_or a.of.now k 0) a.c) in
    let here : 0 + at.s ≡ at.s = omega arith in
    let made = ap₂ C.plus (at.invariant.patched.after at.s (omega arith)) c.look.ensures in
    rw here at (changed_more 0 at.s _ sums a.row.now at.row (omega arith) at.invariant (made ∙ ap sums (sym here)))
