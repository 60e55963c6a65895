use Rattle.std.proofs.Common.{◌*◌, ◌/◌}
use Rattle.alphabet.specs.Codes.{code_on}
use Rattle.pivots.specs.System.{ExchangedIn}
use Rattle.blocks.specs.Row.{block}
use Rattle.pivots.proofs.exchange.Given as goal

-- Rows r and j have changed places in the blocks from that of column j up to p, and j's is scaled.
abbrev pub invariant-loop-p : goal.invariant-loop-p
invariant-loop-p l = ExchangedIn (code_on l.alphabet) (l.j / block * block) (l.p * block) l.r l.j l.u l.initial.system l.system
