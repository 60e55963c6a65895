-- The bytes are laid, zeros behind them, and what lies there then is counted: the entries are those
-- of the bytes, and so are the cost and the totals.
use Rattle.std.proofs.Common.{◌≡◌, arith, ap, ◌∙◌}
use Rattle.alphabet.specs.Codes.{code_on}
use Rattle.definitions.specs.Held.{totals_of, filled}
use Rattle.definitions.specs.Weights.{cost}
use Rattle.turning.proofs.Filled.{laid_filled}
use Rattle.turning.proofs.lay.Goals as goal

pub returns : goal.returns
returns c =
    let C = code_on c.args.alphabet in
    let bytes = c.args.bytes.now in
    let there : c.clear.new.out ≡ filled C bytes =
    laid_filled C _ bytes _ _ _ c.requires.2 (omega arith) c.put.ensures c.clear.ensures in
    (c.count.ensures.0 ∙ ap cost there, c.count.ensures.1 ∙ ap (totals_of C) there, there)
