-- The loop goes over the degrees.
use Rattle.std.proofs.Common.{◌≡◌, length, take}
use Rattle.definitions.proofs.Monomials.{lower}
use Rattle.root_tree.specs.Tree.{zeros}
use Rattle.roots.specs.Rows.{LoadedOfEither}
use Rattle.substitution.specs.Array.{places}
use Rattle.roots.proofs.inside.load.Given as goal

-- Before round d the first j coefficients, those of all degrees below d, are at their places, whichever
-- alphabet they are of.
abbrev pub invariant-loop-d : goal.invariant-loop-d
invariant-loop-d l = record {
  counted : l.j ≡ length (lower l.v l.d);
  loaded : LoadedOfEither l.h (take l.j l.coefficients) (lower l.v l.d) (zeros places) l.p;
}
