-- The best of the leaders so far is kept; at the end it leads all places.
use Rattle.std.proofs.Common.{◌≡◌, ℕ, ◌+◌, ◌-◌, ◌*◌, ◌<◌, List, arith, get_or, length, take, drop, ap, subst, sym, ◌∙◌}
use Rattle.std.proofs.lemmas.Grind.{common_steps}
use Rattle.alphabet.specs.Codes.{code_on}
use Rattle.plans.proofs.Leads.{column_more, leads_all}
use Rattle.plans.specs.Leads.{Leads, LeadsColumn}
use Rattle.steps.proofs.best.Goals as goal

behind_first : (l : List ℕ) (n k : ℕ) → k < length (take n (drop 1 l)) → get_or (take n (drop 1 l)) k 0 ≡ get_or l (k + 1) 0
behind_first l n k h = grind (arith, common_steps)

pub loop-leader-preserved : goal.loop-leader-preserved
loop-leader-preserved c =
    let a = c.args in
    let C = code_on a.alphabet in
    let i : ℕ = c.loop-leader.leader-index + 1 in
    let leader = behind_first a.leaders.now (a.n - 1) c.loop-leader.leader-index c.loop-leader-test.true in
    let own = subst (LeadsColumn C a.reliabilities.now a.multiplicities.now i) (sym leader) (c.requires.1.leads i (omega arith)) in
    column_more C _ _ i _ _ _ c.loop-leader.invariant own c.better-leading.ensures

-- The loop has ended at the last of n columns, which are all places: what leads them is the best place.
pub returns : goal.returns
returns c =
    let r = c.args.reliabilities.now in
    let symbols = (code_on c.args.alphabet).symbols in
    let last : c.loop-leader.leader-index + 1 ≡ c.args.n = omega arith in
    let whole : symbols * (c.loop-leader.leader-index + 1) ≡ length r = ap (λ (j : ℕ). symbols * j) last ∙ sym c.requires.0.weights.full in
    let led = subst (λ (j : ℕ). Leads r c.args.multiplicities.now 0 j c.loop-leader.leading) whole c.loop-leader.invariant in
    (leads_all r _ _ led, led.to)
