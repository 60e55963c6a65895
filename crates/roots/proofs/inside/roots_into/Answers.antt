-- What is loaded and freed is what the search asks of its array, and what it finds are the y-roots.
use Rattle.std.proofs.Common.{ℕ, ◌+◌, ◌-◌, ◌/◌, ◌≤◌, arith, List, length, take}
use Rattle.alphabet.specs.Codes.{code_on, most_symbols}
use Rattle.definitions.specs.Code.{Symbols}
use Rattle.instances.proofs.Codes.{field_on}
use Rattle.root_tree.specs.Tree.{zeros, search}
use Rattle.roots.proofs.Found.{array_fits, loaded_length, loaded_are_symbols, within, room_enough, rows_counted, rows_written}
use Rattle.roots.specs.Rows.{DegreeWithin, rows_after}
use Rattle.substitution.specs.Array.{polynomial}
use Rattle.roots.proofs.inside.roots_into.Goals as goal
use Rattle.roots.proofs.inside.roots_into.Goals.{After-freed-p}

-- the array has room for every accepted polynomial
pub load-loaded-requires-clause-v_nonzero : goal.load-loaded-requires-clause-v_nonzero
load-loaded-requires-clause-v_nonzero c = (omega arith, array_fits c.args.degree c.args.k c.requires.le_k.0 c.requires.le_k.2)

-- it has an entry for each place
pub freed-p-requires : goal.freed-p-requires
freed-p-requires c =
    let a = c.args in
    (omega arith, array_fits a.degree a.k c.requires.le_k.0 c.requires.le_k.2, loaded_length (code_on a.alphabet) a.degree a.k a.coefficients.now _ (c.load-loaded.ensures a.alphabet))

-- what is loaded, and freed, are symbols
are-symbols : (c : After-freed-p) → Symbols (code_on c.args.alphabet) c.freed-p.result
are-symbols c =
    let w = c.args.alphabet in
    let q = c.requires in
    let loaded = loaded_are_symbols (code_on w) (field_on w) _ _ c.args.coefficients.now q.le_k.0 q.le_k.2 q.coefficients_len.0 q.symbols _ (c.load-loaded.ensures w) in
    c.freed-p.ensures.symbols w loaded

-- the rows that the search finds
abbrev rows : After-freed-p → List ℕ
rows c =
    let a = c.args in
    let C = code_on a.alphabet in
    rows_after (take (a.k - a.k) (zeros most_symbols)) (search C a.k (polynomial C (a.degree / (a.k - 1) + 1) (a.degree + 1) c.freed-p.result))

-- the array's degree is within the limit, and the rows have room
ready : (c : After-freed-p)
    → (let a = c.args in
    DegreeWithin (code_on a.alphabet) (a.k - 1) a.degree (a.degree / (a.k - 1) + 1) c.freed-p.result × (0 + length (rows c) ≤ length a.out.now))
ready c =
    let w = c.args.alphabet in
    let q = c.requires in
    let loaded = c.load-loaded.ensures w in
    let freed = c.freed-p.ensures.polynomial w in
    let low = within (code_on w) (field_on w) _ _ _ q.le_k.0 q.le_k.2 q.coefficients_len.0 q.symbols _ loaded _ (are-symbols c) freed in
    let room = room_enough (code_on w) (field_on w) _ _ _ q.le_k.0 q.le_k.2 q.coefficients_len.0 q.symbols _ loaded _ (are-symbols c) freed (zeros most_symbols)
    q.coefficients_value _ q.coefficients_len.1 in
    (low, room)

-- so the search may be called
pub search-requires : goal.search-requires
unfolding zeros
search-requires c =
    let f = (goal.at.search-requires c).After-freed-p in
    let a = c.args in
    let q = c.requires in
    record {
      symbols = are-symbols f;
      h_nonzero = (omega arith, array_fits a.degree a.k q.le_k.0 q.le_k.2, omega arith, q.le_k.1);
      degree_within = ready f;
    }

-- The search has found all roots, and their rows are written.
pub returns : goal.returns
unfolding zeros
returns c =
    let f = (goal.at.returns c).After-freed-p in
    let w = c.args.alphabet in
    let C = code_on w in
    let F = field_on w in
    let q = c.requires in
    let loaded = c.load-loaded.ensures w in
    let freed = c.freed-p.ensures.polynomial w in
    let e = c.search.ensures in
    record {
      count = rows_counted C F _ _ _ q.le_k.0 q.le_k.2 q.coefficients_len.0 q.symbols _ loaded _ (are-symbols f) freed (zeros most_symbols) _ e.count;
      memory = rows_written C F _ _ _ q.le_k.0 q.le_k.2 q.coefficients_len.0 q.symbols _ loaded _ (are-symbols f) freed (zeros most_symbols) _ _ e.memory;
    }
