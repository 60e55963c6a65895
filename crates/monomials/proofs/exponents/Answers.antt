-- The loop walks along the monomials in their order, and each step fills in one power of x and one of y.
use Rattle.std.proofs.Common.{◌≡◌, ◌+◌, ℕ, List, [], ◌∷◌, ◌∙◌, ap₂, replicate, arith}
use Rattle.blocks.proofs.Filled.{zeros_from, filling_none, filling_more, filling_whole}
use Rattle.blocks.specs.Row.{width}
use Rattle.monomials.proofs.Walk.{walk_begins, walk_stays, walk_turns}
use Rattle.monomials.specs.Walk.{walked}
use Rattle.monomials.proofs.exponents.Goals as goal
use Rattle.monomials.proofs.exponents.Goals.{Joined-v-x, then-v-x, else-v-x}

pub loop-step-init : goal.loop-step-init
loop-step-init c =
    let w = walk_begins c.args.v in
    let n = c.args.count in
    record { x = w.0; y = w.1; degree = w.2; xs = filling_none n _ (replicate width 0) (zeros_from n); ys = filling_none n _ (replicate width 0) (zeros_from n) }

-- The branch that was taken is the next step of the walk.
walks_on : (c : Joined-v-x)
    → (let k = c.loop-step.step + 1 in
    (c.if-v-x.x ≡ (walked c.args.v k).0) × (c.if-v-x.y ≡ (walked c.args.v k).1) × (c.if-v-x.degree ≡ (walked c.args.v k).2))
walks_on c =
    let v = c.args.v in
    let i = c.loop-step.invariant in
    elim c.if-v-x.branch [
      | then-v-x w ↦
          let r = walk_stays v c.loop-step.step _ _ _ i.x i.y i.degree w.if-v-x.true in
          (w.x-is ∙ r.0, w.y-is ∙ r.1, w.degree-is ∙ r.2)
      | else-v-x w ↦
          let r = walk_turns v c.loop-step.step _ _ _ i.x i.y i.degree w.if-v-x.false in
          (w.x-is ∙ r.0, w.y-is ∙ r.1, w.degree-is ∙ r.2)
    ]

pub loop-step-preserved : goal.loop-step-preserved
loop-step-preserved c =
    let n = c.args.count in
    let l = c.loop-step in
    let next = walks_on c in
    record {
      x = next.0;
      y = next.1;
      degree = next.2;
      xs = filling_more n _ l.step l.x l.xs (omega arith) (omega arith) l.invariant.xs l.invariant.x;
      ys = filling_more n _ l.step l.y l.ys (omega arith) (omega arith) l.invariant.ys l.invariant.y;
    }

-- Both rows are filled.
pub returns : goal.returns
returns c =
    let n = c.args.count in
    let e : c.loop-step.step ≡ n = omega arith in
    let i = c.loop-step.invariant in
    ap₂ (λ (x y : List ℕ). x ∷ y ∷ []) (filling_whole n _ c.loop-step.xs (omega arith) (rw e at i.xs)) (filling_whole n _ c.loop-step.ys (omega arith) (rw e at i.ys))
