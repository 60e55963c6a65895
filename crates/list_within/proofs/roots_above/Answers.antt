-- The rows found are those of all roots, at most as many as a list has; ranked above the threshold, they are what is listed.
use Rattle.std.proofs.Common.{ℕ, ◌*◌, ◌-◌, ◌/◌, ◌≤◌, List, length, replicate, arith}
use Rattle.alphabet.proofs.Sizes.{sized}
use Rattle.alphabet.specs.Codes.{code_on, most_positions}
use Rattle.definitions.proofs.Symbols.{replicate_symbols}
use Rattle.definitions.specs.Limits.{greatest_rows}
use Rattle.definitions.specs.Roots.{roots_of}
use Rattle.instances.proofs.Codes.{field_on}
use Rattle.list_within.proofs.Listing.{few_roots, found_symbols, roots_listed, length_found, rows_fit}
use Rattle.list_within.proofs.roots_above.Goals as goal

-- the memory for the rows, before they are found
memory : List ℕ
memory = replicate (greatest_rows * most_positions) 0

-- It has room for as many rows as the roots can be.
pub roots_into-many-requires-clause-coefficients_len : goal.roots_into-many-requires-clause-coefficients_len
roots_into-many-requires-clause-coefficients_len c =
    let a = c.args in
    let f = c.requires.rooted in
    let z = f.sized in
    let w = sized a.alphabet in
    (f.full, rows_fit most_positions a.k (a.degree / (a.k - 1)) (omega arith) f.low)

-- It held zeros, and holds the symbols of the roots in front now.
pub ranked-requires-clause-symbols : goal.ranked-requires-clause-symbols
unfolding memory
ranked-requires-clause-symbols c =
    let a = c.args in
    let C = code_on a.alphabet in
    let w = sized a.alphabet in
    let zeros = replicate_symbols C (greatest_rows * most_positions) 0 (omega arith) in
    found_symbols C (field_on a.alphabet) a.degree a.k a.coefficients.now memory c.roots_into-many.new.out zeros c.roots_into-many.ensures.memory

-- The roots are at most as many as a list has rows, and the memory holds that many.
pub ranked-requires-clause-n_bound : goal.ranked-requires-clause-n_bound
unfolding memory
ranked-requires-clause-n_bound c =
    let a = c.args in
    let C = code_on a.alphabet in
    let F = field_on a.alphabet in
    let rooted = c.requires.rooted in
    let z = rooted.sized in
    let w = sized a.alphabet in
    let few = few_roots C F a.n a.k a.degree a.threshold a.coefficients.now rooted in
    let many = c.roots_into-many.ensures.count in
    let fits = rows_fit most_positions a.k (length (roots_of C a.degree a.k a.coefficients.now)) (omega arith) few in
    let long = length_found C F a.degree a.k a.coefficients.now memory c.roots_into-many.new.out fits c.roots_into-many.ensures.memory in
    let taken : a.k * c.roots_into-many.result ≤ greatest_rows * most_positions = rw many fits in
    (z.2, omega arith, rw many few, omega arith)

pub returns : goal.returns
unfolding memory
returns c m size loaded =
    let a = c.args in
    let listed = c.ranked.ensures in
    roots_listed (code_on a.alphabet) (field_on a.alphabet) a.n a.k a.degree a.threshold a.coefficients.now c.requires.rooted m size a.matrix.now memory
    c.roots_into-many.new.out _ loaded c.roots_into-many.ensures.count c.roots_into-many.ensures.memory a.rows.now a.scores.now _ _ _
    listed.count listed.row_memory listed.score_memory
