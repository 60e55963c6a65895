-- The round's coefficient is the next of `reverse f`, so it stands before those that were met.
use Rattle.std.proofs.Common.{◌≡◌, ◌-◌, arith, length}
use Rattle.std.proofs.lemmas.Iterator.Adapters.{YieldsList-from_rev_slice}
use Rattle.std.proofs.lemmas.Iterator.Consumers.{YieldsList-turn, YieldsList-end}
use Rattle.std.proofs.lemmas.List.{length_push, length-reverse}
use native.Mathlib.Nat.{sub-zero}
use Rattle.alphabet.specs.Codes.{code_on}
use Rattle.code.proofs.Encoding.{empty_value, value_back, value_so_far}
use Rattle.definitions.specs.Field.{sum_of}
use Rattle.instances.proofs.Codes.{field_on}
use Rattle.code.proofs.inside.value_at.Goals as goal

-- what the coefficients that were met come to is a symbol
pub look-requires : goal.look-requires
look-requires c =
    let a = c.args in
    (c.requires.x_bound, value_so_far (code_on a.alphabet) (field_on a.alphabet) a.x a.f.now _ c.loop-c.y c.requires.x_bound c.requires.symbols c.loop-c.invariant)

pub loop-c-init : goal.loop-c-init
loop-c-init c = let a = c.args in rw sub-zero (empty_value (code_on a.alphabet) a.x a.f.now)

pub loop-c-preserved : goal.loop-c-preserved
unfolding sum_of
loop-c-preserved c =
    let a = c.args in
    let met = YieldsList-turn (YieldsList-from_rev_slice a.f.now cc) c.loop-c.yielded _ c.loop-c.yielded_by _ _ c.in-Some.field-0 c.in-Some.is c.next.ensures.steps in
    value_back (code_on a.alphabet) a.x a.f.now _ _ _ _ _ met (length_push _ c.in-Some.field-0) c.loop-c.invariant c.look.ensures

-- All coefficients were met, so y is the value of all.
pub returns : goal.returns
returns c =
    let a = c.args in
    let met = YieldsList-end (YieldsList-from_rev_slice a.f.now cc) c.loop-c.yielded _ c.loop-c.yielded_by _ _ c.in-None.is c.next.ensures.steps in
    let none : length a.f.now - length c.loop-c.yielded ≡ 0 = omega (arith, met.1, length-reverse a.f.now) in
    rw none at c.loop-c.invariant
