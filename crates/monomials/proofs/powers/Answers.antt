-- The loop fills the row from the front with the power that it holds, and goes on to the next by one product.
use Rattle.std.proofs.Common.{◌≡◌, ◌<◌, ℕ, sym, ◌∙◌, ap, subst, add-one, length-take-le, arith}
use Rattle.alphabet.specs.Codes.{code_on}
use Rattle.algebra.proofs.Numbers.{power_symbol}
use Rattle.blocks.proofs.Blocks.{front_none, front_more}
use Rattle.definitions.proofs.Codeword.{power_zero, power_suc}
use Rattle.definitions.specs.Field.{numbers, power}
use Rattle.instances.proofs.Codes.{field_on}
use Rattle.monomials.proofs.Rows.{filled_front}
use Rattle.monomials.proofs.powers.Goals as goal

pub loop-entry-init : goal.loop-entry-init
loop-entry-init c = (sym (power_zero (numbers (code_on c.args.alphabet)) c.args.x), front_none _ _)

-- A power of a symbol is one.
pub look-next-requires : goal.look-next-requires
look-next-requires c =
    let a = c.args in
    let C = code_on a.alphabet in
    let symbol = power_symbol C (field_on a.alphabet) a.x (omega arith) c.loop-entry.entry-index in
    (omega arith, subst (λ (p : ℕ). p < C.symbols) (sym c.loop-entry.invariant.0) symbol)

pub loop-entry-preserved : goal.loop-entry-preserved
loop-entry-preserved c =
    let a = c.args in
    let C = code_on a.alphabet in
    let l = c.loop-entry in
    let e = l.entry-index in (
      c.look-next.ensures ∙ ap (C.times a.x) l.invariant.0 ∙ sym (power_suc (numbers C) a.x e) ∙ ap (power (numbers C) a.x) (sym (add-one e)),
      front_more e l.next _ l.entry-items (omega arith) l.invariant.1 l.invariant.0,
    )

-- The first n powers are filled in.
pub returns : goal.returns
returns c =
    let a = c.args in
    let l = c.loop-entry in
    let few = length-take-le a.n a.row.now (omega arith) in
    let e : l.entry-index ≡ a.n = omega arith in
    filled_front a.n _ a.row.now l.entry-items (omega arith) c.requires.2 (omega arith) (rw e at l.invariant.1)
