-- What stands in front of the entries is compared with the rule's result, which is written in front of zeros.
use Rattle.std.proofs.Common.{rules, length}
use Rattle.std.proofs.lemmas.List.{take-replicate}
use Rattle.alphabet.specs.Codes.{code_on, most_places}
use Rattle.planner.proofs.Checking.{weights_within, is_right}
use Rattle.planner.proofs.inside.check_entries.Goals as goal

-- What is lent of the zeros is as long as the reliabilities.
pub plan_into-done-requires : goal.plan_into-done-requires
plan_into-done-requires c =
    let a = c.args in
    let r = a.reliabilities.now in
    (c.requires.0, take-replicate (length r) most_places 0 (weights_within a.alphabet a.n r c.requires.0))

-- It is not the rule's result: refusal 9.
pub returns-in_err-refuse_if : goal.returns-in_err-refuse_if
returns-in_err-refuse_if c =
    let a = c.args in
    let r = a.reliabilities.now in
    let is = is_right (code_on a.alphabet) a.n a.steps r c.requires.0.full a.entries.now _ _ c.plan_into-done.ensures.memory _ c.same_up_to-same.ensures in
    search rules

-- It is the rule's result, so the plan's line accepts, and the steps told are those that the rule took.
pub returns : goal.returns
returns c =
    let a = c.args in
    let r = a.reliabilities.now in
    let is = is_right (code_on a.alphabet) a.n a.steps r c.requires.0.full a.entries.now _ _ c.plan_into-done.ensures.memory _ c.same_up_to-same.ensures in
    search rules
