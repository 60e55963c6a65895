-- `load_degree` brings the coefficients of degree d to their places, and one law of Loading adds them to
-- those before.
use Rattle.std.proofs.Common.{arith}
use Rattle.alphabet.specs.Codes.{code_on}
use Rattle.definitions.proofs.Monomials.{none_lower}
use Rattle.root_tree.specs.Tree.{zeros}
use Rattle.roots.proofs.Loading.{load_none, load_more, load_last, counted_more, degree_within}
use Rattle.roots.proofs.inside.load.Goals as goal

-- nothing is loaded yet
pub loop-d-init : goal.loop-d-init
unfolding zeros
loop-d-init c =
    let a = c.args in
    record { counted = none_lower a.v; loaded = λ w. load_none (code_on w) a.v c.requires.v_nonzero.0 a.degree a.coefficients.now c.requires.coefficients_len _ _ }

-- the coefficients of degree d are in the list
pub load_degree-requires-clause-v_in_bounds : goal.load_degree-requires-clause-v_in_bounds
load_degree-requires-clause-v_in_bounds c =
    let a = c.args in
    let within = degree_within a.v c.requires.v_nonzero.0 a.degree a.coefficients.now c.requires.coefficients_len c.loop-d.d (omega arith) in
    omega arith

-- so their number, with those before, fits
pub overflow_add-j-in-loop-d : goal.overflow_add-j-in-loop-d
overflow_add-j-in-loop-d c =
    let a = c.args in
    let within = degree_within a.v c.requires.v_nonzero.0 a.degree a.coefficients.now c.requires.coefficients_len c.loop-d.d (omega arith) in
    omega arith

-- the coefficients of one degree more
pub loop-d-preserved : goal.loop-d-preserved
loop-d-preserved c =
    let i = c.loop-d.invariant in
    record {
      counted = counted_more _ _ _ i.counted;
      loaded = λ w. load_more (code_on w) _ c.requires.v_nonzero.0 _ _ c.requires.coefficients_len _ _ _ _ _ _ (omega arith) i.counted (i.loaded w) (c.load_degree.ensures w);
    }

-- The round is that of the greatest degree, so all coefficients are loaded.
pub returns-2 : goal.returns-2
returns-2 c w =
    let i = c.loop-d.invariant in
    load_last (code_on w) _ c.requires.v_nonzero.0 _ _ c.requires.coefficients_len _ _ _ _ _ _ (omega arith) i.counted (i.loaded w) (c.load_degree.ensures w) (omega arith)
