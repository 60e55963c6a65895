-- Two laws of Shifting say what a fold leaves, and what is left in the end.
use Rattle.std.proofs.Common.{◌*◌, ℕ, suc, ap, sym, ◌∙◌}
use native.Mathlib.Nat.{pow-suc}
use Rattle.alphabet.specs.Codes.{code_on}
use Rattle.algebra.proofs.Elements.{times_symbol}
use Rattle.instances.proofs.Codes.{field_on}
use Rattle.substitution.proofs.Shifting.{left_of_more, left_of_none}
use Rattle.substitution.proofs.shift.Goals as goal

-- A fold takes one bit off what is left of each column.
pub loop-bit-preserved : goal.loop-bit-preserved
loop-bit-preserved c =
    let l = c.loop-bit in
    let i = l.invariant in
    let a = c.args in
    let C = code_on a.alphabet in
    let F = field_on a.alphabet in
    let k = i.two.0 in
    let e = i.two.1 in
    let r = c.fold in
    let more = left_of_more C F a.h a.w a.g a.p.now k l.bit l.power l.p r.new.p e i.power i.symbols r.ensures.folded i.left in
    record {
      two = (suc k, ap (λ (n : ℕ). n * 2) e ∙ sym (pow-suc 2 k));
      power = rw c.look-power.ensures (times_symbol C F _ _ i.power i.power);
      symbols = r.ensures.symbols;
      left = rw c.look-power.ensures more;
    }

-- The loop has ended at a bit that no place below h has: nothing is left to be shifted.
pub returns-clause-shifted : goal.returns-clause-shifted
returns-clause-shifted c =
    let l = c.loop-bit in
    let a = c.args in
    left_of_none (code_on a.alphabet) (field_on a.alphabet) a.h a.w a.g a.p.now c.requires.h_le_places.2 c.requires.symbols_2
    l.bit l.power l.p c.loop-bit-test.false l.invariant.symbols l.invariant.left
