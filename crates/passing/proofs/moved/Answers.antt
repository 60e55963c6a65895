-- The entry of order s is made of the row's entries of the orders s and s - 1.
use Rattle.std.proofs.Common.{◌∷◌, ℕ, arith, get_or, sym, ap, ap₂, add-one}
use Rattle.std.proofs.Math.ListN.{length-set}
use Rattle.alphabet.specs.Codes.{code_on}
use Rattle.blocks.proofs.Blocks.{front_more}
use Rattle.definitions.specs.Field.{sum_of}
use Rattle.passing.specs.Derivatives.{moved_at}
use Rattle.passing.proofs.moved.Goals as goal

pub loop-s-preserved : goal.loop-s-preserved
unfolding sum_of
loop-s-preserved c =
    let a = c.args in
    let C = code_on a.alphabet in
    let at = c.loop-s in
    let made = ap₂ C.plus c.look.ensures at.invariant.1 in (
      simp length-set (omega arith),
      sym (ap (λ (k : ℕ). get_or (0 ∷ a.row.now) k 0) (add-one at.s)),
      front_more at.s _ (moved_at C a.c a.row.now) at.next (omega arith) at.invariant.2 made,
    )
