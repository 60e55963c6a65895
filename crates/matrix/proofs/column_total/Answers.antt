-- The loop has gone through the column, so the total is the whole column's.
use Rattle.std.proofs.Common.{◌≡◌, ◌*◌, ◌+◌, ◌≤◌, drop, length, take, rules, arith, ◌∙◌}
use Rattle.std.proofs.lemmas.Grind.{common_steps}
use Rattle.std.specs.List.{sum_by}
use Rattle.alphabet.specs.Codes.{code_on}
use Rattle.matrix.proofs.Chains.{column_added}
use Rattle.matrix.proofs.column_total.Goals as goal

pub returns : goal.returns
returns c =
    let q = c.symbols-symbols.result in
    let whole : c.loop-x.total ≡ sum_by (λ x. x) (take q (drop (q * c.args.i) c.args.entries.now)) = grind (arith, common_steps) in
    let within : q * c.args.i + q ≤ length c.args.entries.now = search rules in
    whole ∙ column_added (code_on c.args.alphabet) c.args.entries.now c.args.i q c.symbols-symbols.ensures within
