-- A leaf lays its row by memory's put. A level goes on from each symbol that begins a root.
use Rattle.std.proofs.Common.{◌≡◌, ℕ, ◌+◌, ◌-◌, arith, rules, List, length, take, true, ap, sym, ◌∙◌}
use lib.Seq.{length-take-le}
use Rattle.alphabet.proofs.Sizes.{sized}
use Rattle.alphabet.specs.Codes.{code_on}
use Rattle.instances.proofs.Codes.{field_on}
use Rattle.memory.specs.Laid.{laid}
use Rattle.root_tree.specs.Tree.{constants_zero}
use Rattle.substitution.specs.Array.{polynomial}
use Rattle.roots.proofs.Rows.{rows_before, rows_all, before_nothing, leaf_root_length, leaf_written, leaf_nothing, row_holds, begins_yes, begins_no, tried_none, gone_on}
use Rattle.roots.proofs.inside.+search.Goals as goal
use Rattle.roots.proofs.inside.+search.Goals.{Joined-first_value-eq0, then-first_value-eq0, else-first_value-eq0}

-- ---- the leaf

-- the row has an entry for each symbol of a message, and there is room for it
pub put-requires : goal.put-requires
put-requires t c =
    let a = c.args in
    let C = code_on a.alphabet in
    let M = polynomial C a.h (a.degree + 1) a.p in
    let root : true ≡ constants_zero M = sym c.if-constants_zero.true ∙ c.constants_zero.ensures a.alphabet in
    let long = row_holds a.alphabet a.row a.k (search rules) c.requires.h_nonzero.3 in
    let n = leaf_root_length C a.row a.k a.left M c.if-left-eq0.true root long in
    let m = length-take-le a.k a.row long in
    let room = c.requires.degree_within.1 in
    omega arith

-- No symbol is left and the constants are zero: the row itself is written, k entries.
pub returns-then-constants_zero-clause-count : goal.returns-then-constants_zero-clause-count
returns-then-constants_zero-clause-count t c =
    let a = c.args in
    let C = code_on a.alphabet in
    let M = polynomial C a.h (a.degree + 1) a.p in
    let root : true ≡ constants_zero M = sym c.if-constants_zero.true ∙ c.constants_zero.ensures a.alphabet in
    let long = row_holds a.alphabet a.row a.k (search rules) c.requires.h_nonzero.3 in
    ap (λ (n : ℕ). a.at + n) (sym (leaf_root_length C a.row a.k a.left M c.if-left-eq0.true root long))

-- and it is what the search finds
pub returns-then-constants_zero-clause-memory : goal.returns-then-constants_zero-clause-memory
returns-then-constants_zero-clause-memory t c =
    let a = c.args in
    let C = code_on a.alphabet in
    let root = sym c.if-constants_zero.true ∙ c.constants_zero.ensures a.alphabet in
    leaf_written C a.row a.k a.left (polynomial C a.h (a.degree + 1) a.p) c.if-left-eq0.true root a.out.now _ a.at c.put.ensures

-- No symbol is left and a constant is not zero: there is no row, and nothing is written.
pub returns-then-left-eq0 : goal.returns-then-left-eq0
returns-then-left-eq0 t c =
    let a = c.args in
    let C = code_on a.alphabet in
    let none = sym c.if-constants_zero.false ∙ c.constants_zero.ensures a.alphabet in
    let z = leaf_nothing C a.row a.k a.left (polynomial C a.h (a.degree + 1) a.p) c.if-left-eq0.true none a.out.now a.at in
    record { count = z.0; memory = z.1 }

-- ---- one symbol after the other

-- before the first symbol nothing is written
pub loop-g-init : goal.loop-g-init
loop-g-init t c =
    let a = c.args in
    let C = code_on a.alphabet in
    let z = before_nothing C (take (a.k - a.left) a.row) (a.left - 1) (polynomial C a.h (a.degree + 1) a.p) a.out.now a.at in
    record { counted = z.0; written = z.1 }

-- what a symbol that begins a root hands on is within the array, and its rows have room
pub search-end-requires : goal.search-end-requires
search-end-requires t c =
    let a = c.args in
    let l = c.loop-g in
    let q = c.requires in
    let C = code_on a.alphabet in
    let z = (sized a.alphabet).least in
    let long = row_holds a.alphabet a.row a.k (search rules) q.h_nonzero.3 in
    let begun = begins_yes C a.h a.degree l.g a.p _ c.first_value.ensures c.if-first_value-eq0.true in
    let r = c.handed-rest in
    let g = gone_on C (field_on a.alphabet) a.k a.left a.degree a.h a.row a.p a.out.now a.at l.out l.end l.g (omega arith) (omega arith) q.h_nonzero.2 long
    q.degree_within.1 l.invariant.counted l.invariant.written q.h_nonzero.0 q.symbols q.degree_within.0 begun r.result r.ensures.symbols r.ensures.polynomial in
    (omega arith, (r.ensures.symbols, ((omega arith, omega arith, omega arith, omega arith), (g.within, omega arith))))

-- A symbol that begins a root is gone on with; another writes nothing.
tried : (t : ℕ) (c : Joined-first_value-eq0 t)
    → (let a = c.args in let C = code_on a.alphabet in
    let before = rows_before C (take (a.k - a.left) a.row) (a.left - 1) (polynomial C a.h (a.degree + 1) a.p) (c.loop-g.g + 1) in
    (c.if-first_value-eq0.end ≡ a.at + length before) × (c.if-first_value-eq0.out ≡ laid a.out.now a.at before))
tried t c =
    let a = c.args in
    let l = c.loop-g in
    let v = c.first_value in
    let q = c.requires in
    let C = code_on a.alphabet in
    elim c.if-first_value-eq0.branch [
      | then-first_value-eq0 w ↦
          let z = (sized a.alphabet).least in
          let long = row_holds a.alphabet a.row a.k (search rules) q.h_nonzero.3 in
          let begun = begins_yes C a.h a.degree l.g a.p v.result v.ensures w.if-first_value-eq0.true in
          let r = w.handed-rest in
          let g = gone_on C (field_on a.alphabet) a.k a.left a.degree a.h a.row a.p a.out.now a.at l.out l.end l.g (omega arith) (omega arith) q.h_nonzero.2 long
          q.degree_within.1 l.invariant.counted l.invariant.written q.h_nonzero.0 q.symbols q.degree_within.0 begun r.result r.ensures.symbols r.ensures.polynomial in
          rw (w.end-is, w.out-is) (g.written _ _ w.search-end.ensures.count w.search-end.ensures.memory)
      | else-first_value-eq0 w ↦
          let begins = begins_no C a.h a.degree l.g a.p v.result v.ensures w.if-first_value-eq0.false in
          let same = tried_none C (take (a.k - a.left) a.row) (a.left - 1) (polynomial C a.h (a.degree + 1) a.p) a.out.now a.at l.out l.end l.g l.invariant.counted l.invariant.written begins in
          rw (w.end-is, w.out-is) same
    ]

pub loop-g-preserved : goal.loop-g-preserved
loop-g-preserved t c =
    let z = tried t (goal.at.loop-g-preserved t c).Joined-first_value-eq0 in
    record { counted = z.0; written = z.1 }

-- The symbol was the greatest, so the rows of all symbols are written.
pub returns-after-first_value-eq0 : goal.returns-after-first_value-eq0
returns-after-first_value-eq0 t c =
    let a = c.args in
    let C = code_on a.alphabet in
    let z = tried t (goal.at.returns-after-first_value-eq0 t c).Joined-first_value-eq0 in
    let M = polynomial C a.h (a.degree + 1) a.p in
    let least = (sized a.alphabet).least in
    let end : c.loop-g.g + 1 ≡ C.symbols = omega arith in
    let all = ap (rows_before C (take (a.k - a.left) a.row) (a.left - 1) M) end ∙ sym (rows_all C (take (a.k - a.left) a.row) a.left M (omega arith)) in
    record { count = z.0 ∙ ap (λ (x : List ℕ). a.at + length x) all; memory = z.1 ∙ ap (laid a.out.now a.at) all }
