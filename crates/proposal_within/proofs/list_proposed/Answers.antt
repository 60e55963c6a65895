-- What passes the cost, the degree limit and the proposal is within the bound, so its roots above the bound are all messages above it: that
-- is the list.
use Rattle.std.proofs.Common.{◌*◌, ◌-◌, ◌≤◌, take, length-take-le, arith, sym, ap, ◌∙◌}
use borrow.Author.Tests.{not-false}
use Rattle.std.proofs.lemmas.Bool.Decides.{nat_tests}
use Rattle.alphabet.specs.Codes.{code_on}
use Rattle.definitions.proofs.Proposals.{yes_means}
use Rattle.definitions.specs.Bound.{bound}
use Rattle.instances.proofs.Codes.{field_on}
use Rattle.list_within.proofs.Answers.{listed}
use Rattle.list_within.proofs.Listing.{lists}
use Rattle.matrix.proofs.Columns.{columns_front}
use Rattle.proposal_within.proofs.Answers.{lines_passed, proposal_rooted}
use Rattle.proposal_within.proofs.list_proposed.Goals as goal

pub roots_above-requires-clause-rooted : goal.roots_above-requires-clause-rooted
roots_above-requires-clause-rooted c =
    let a = c.args in
    let m = take ((code_on a.alphabet).symbols * a.n) a.entries.now in
    let cheap : a.cost ≤ a.limit = grind (arith, nat_tests, c.in_ok-refuse_if.ensures) in
    let within : a.degree ≤ c.bound-bound.result = grind (arith, nat_tests, c.in_ok-refuse_if-2.ensures) in
    let yes = sym c.is_yes.ensures ∙ not-false c.is_yes.result c.in_ok-refuse_if-3.ensures in
    let other = (yes_means (code_on a.alphabet) (a.k - 1) a.degree a.coefficients.now a.n m yes).0 in
    proposal_rooted (code_on a.alphabet) a.n a.k a.limit a.degree a.coefficients.now a.cost c.requires.fit c.requires.front_costs.1 cheap within other c.bound-bound.ensures

-- The columns are those of the bytes.
pub roots_above-requires-clause-loaded : goal.roots_above-requires-clause-loaded
roots_above-requires-clause-loaded c =
    let a = c.args in
    let C = code_on a.alphabet in
    let f = c.requires.front_costs.0 in
    let m = take (C.symbols * a.n) a.entries.now in
    (m, length-take-le (C.symbols * a.n) a.entries.now f.within, columns_front C a.n a.cost a.entries.now c.requires.fit.sized.2 f c.in_columns-columns.result c.in_columns-columns.ensures)

-- The roots of the proposal above the bound are listed, and these are all messages above it.
pub returns : goal.returns
returns c =
    let a = c.args in
    let C = code_on a.alphabet in
    let f = c.requires.front_costs.0 in
    let m = take (C.symbols * a.n) a.entries.now in
    let full = length-take-le (C.symbols * a.n) a.entries.now f.within in
    let loaded = columns_front C a.n a.cost a.entries.now c.requires.fit.sized.2 f c.in_columns-columns.result c.in_columns-columns.ensures in
    let is_bound = c.bound-bound.ensures ∙ ap (bound (a.k - 1)) f.paid in
    let cheap : a.cost ≤ a.limit = grind (arith, nat_tests, c.in_ok-refuse_if.ensures) in
    let within : a.degree ≤ c.bound-bound.result = grind (arith, nat_tests, c.in_ok-refuse_if-2.ensures) in
    let yes = sym c.is_yes.ensures ∙ not-false c.is_yes.result c.in_ok-refuse_if-3.ensures in
    let means = yes_means C (a.k - 1) a.degree a.coefficients.now a.n m yes in
    let rooted = proposal_rooted C a.n a.k a.limit a.degree a.coefficients.now a.cost c.requires.fit c.requires.front_costs.1 cheap within means.0 c.bound-bound.ensures in
    listed C a.n a.k m a.rows.now a.scores.now (lines_passed C a.n a.k a.limit a.degree a.coefficients.now m (rw f.paid at cheap) (rw is_bound at within) yes) _ _ _
    (lists C (field_on a.alphabet) a.n a.k a.degree c.bound-bound.result a.coefficients.now rooted m full means.1 within _ is_bound (c.roots_above.ensures m full loaded))
