-- The kit says what the copy leaves of the array.
use Rattle.std.proofs.Common.{rules}
use Rattle.root_tree.specs.Tree.{zeros}
use Rattle.substitution.proofs.moved.Goals as goal

-- what lies behind the entries is as it was, zeros
pub returns : goal.returns
unfolding zeros
returns c = search rules
