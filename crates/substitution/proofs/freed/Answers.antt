-- The first entry that is not zero tells how many columns go; the rest moves to the front.
use Rattle.std.proofs.Common.{rules, arith, ◌≡◌, ◌≢◌, ◌*◌, take, ◌∙◌}
use Rattle.std.proofs.lemmas.Iterator.{YieldsList-from_slice, IsFirst-from_position}
use borrow.Author.Tests.{tests}
use Rattle.alphabet.specs.Codes.{code_on}
use Rattle.definitions.specs.Tools.{smallest}
use Rattle.instances.proofs.Codes.{field_on}
use Rattle.substitution.specs.Array.{places, is_other}
use Rattle.substitution.proofs.Substitution.{first_found, freed_moved, copied_symbols}
use Rattle.substitution.proofs.freed.Goals as goal

-- The search gives the first entry other than zero, or n where there is none. The columns before its
-- own are zero, and what is copied is what follows them.
pub returns-clause-polynomial : goal.returns-clause-polynomial
returns-clause-polynomial c w =
    let p = c.args.p.now in
    let n = c.args.w * c.args.h in
    let found = IsFirst-from_position _ _ _ (λ x. x ≢ 0) (λ x. x ≡ 0) c.position.ensures.ran (YieldsList-from_slice (take n p) cc)
    (λ x q k. search (rules, tests)) (λ x q k. search (rules, tests)) in
    let first : c.unwrap_or-first.result ≡ smallest (is_other p) n = c.unwrap_or-first.ensures ∙ first_found p n c.position.result (omega arith) found in
    freed_moved (code_on w) c.args.h c.args.w c.requires.0 p c.requires.2 c.requires.1 _ _ first c.moved.ensures

-- The entries are those of the array, or zeros.
pub returns-clause-symbols : goal.returns-clause-symbols
returns-clause-symbols c w = copied_symbols (code_on w) (field_on w) c.args.p.now _ _ _ _ places c.moved.ensures
