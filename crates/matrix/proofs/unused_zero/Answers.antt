-- Where all positions are used nothing lies behind them.
use Rattle.std.proofs.Common.{arith}
use Rattle.std.proofs.lemmas.Grind.{common_steps}
use Rattle.definitions.proofs.Zeros.{is_zero_nil}
use Rattle.matrix.proofs.unused_zero.Goals as goal

pub returns-then-positions-n : goal.returns-then-positions-n
returns-then-positions-n c = grind (arith, common_steps, is_zero_nil)
