-- The costs of the entries are added up in their order.
use Rattle.std.proofs.Common.{◌≡◌, rules, ◌∙◌}
use Rattle.std.proofs.iter.runs.Made.{chains}
use Rattle.std.specs.List.{sum_by}
use Rattle.definitions.specs.Weights.{entry_cost}
use Rattle.matrix.proofs.Chains.{sum_entries}
use Rattle.matrix.proofs.cost.Goals as goal

pub returns : goal.returns
returns c =
    let added : c.sum.result ≡ sum_by entry_cost c.args.entries.now = search (rules, chains) in
    added ∙ sum_entries entry_cost c.args.entries.now
