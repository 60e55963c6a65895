-- A degree of 256 or more has too many monomials.
use Rattle.std.proofs.Common.{rules}
use borrow.Author.Tests.{leb-true}
use Rattle.bound.proofs.Degree.{too_many}
use Rattle.definitions.specs.Limits.{greatest_count}
use Rattle.bound.proofs.degree_checked.Goals as goal

-- So where it is refused uncounted, the line of the count is given.
pub returns-in_err-refuse_if-clause-tried : goal.returns-in_err-refuse_if-clause-tried
returns-in_err-refuse_if-clause-tried c =
    let a = c.args in
    let many = too_many a.v a.d c.requires (leb-true greatest_count a.d c.in_err-refuse_if.ensures.0) in
    search (rules, many)
