-- The loop puts the rows of one position more behind those of the positions before it, and goes from
-- each point to the next by one product.
use Rattle.std.proofs.Common.{◌≡◌, ◌+◌, ◌*◌, ◌/◌, ◌≤◌, ◌<◌, ℕ, List, [], length, get_or, sym, ◌∙◌, ap, subst, add-one, arith, get_or-take, length-take-le, take}
use Rattle.std.proofs.lemmas.List.Edits.{sets}
use Rattle.algebra.proofs.Numbers.{point_symbol}
use Rattle.alphabet.proofs.Sizes.{sized}
use Rattle.alphabet.specs.Codes.{code_on}
use Rattle.alphabet.specs.declared.Alphabet.{Alphabet}
use Rattle.blocks.proofs.Filled.{filled_zeros, zeros_from}
use Rattle.blocks.specs.Row.{block, ZeroFrom}
use Rattle.conditions.proofs.Placed.{joining_none, joining_more, joining_room, joining_clear}
use Rattle.conditions.specs.MaskedRows.{masked_column, column_at}
use Rattle.definitions.proofs.Codeword.{power_zero, power_suc}
use Rattle.definitions.specs.Code.{Symbols, point}
use Rattle.definitions.specs.Field.{numbers}
use Rattle.instances.proofs.Codes.{field_on}
use Rattle.monomials.proofs.Rows.{powers_symbols, exponents_places}
use Rattle.monomials.specs.Rows.{Places, powers_row}
use Rattle.conditions.proofs.matrix_rows.Goals as goal
use Rattle.conditions.proofs.matrix_rows.Goals.{After-powers}

pub loop-column-init : goal.loop-column-init
loop-column-init c = (joining_none, sym (power_zero (numbers (code_on c.args.alphabet)) 2), zeros_from (c.args.d + 1))

-- A point is a symbol.
symbol : (w : Alphabet) (a i : ℕ) → a ≡ point (code_on w) i → a < (code_on w).symbols
symbol w a i e = subst (λ (x : ℕ). x < (code_on w).symbols) (sym e) (point_symbol (code_on w) (field_on w) i)

pub powers-requires : goal.powers-requires
powers-requires c =
    let l = c.loop-column in
    (symbol c.args.alphabet l.a l.column-index l.invariant.1, omega arith, l.invariant.2)

-- The position is one of the alphabet's.
position : (c : After-powers) → c.loop-column.column-index < (code_on c.args.alphabet).positions
position c =
    let z = sized c.args.alphabet in
    let few = length-take-le c.positions.result c.args.matrix.now (omega arith) in
    omega arith

-- The row is filled with the powers of its point.
of_x : (c : After-powers) → (let C = code_on c.args.alphabet in c.powers.new.row ≡ powers_row C (c.args.d + 1) (point C c.loop-column.column-index))
of_x c = c.powers.ensures ∙ ap (powers_row (code_on c.args.alphabet) (c.args.d + 1)) c.loop-column.invariant.1

-- What is put are the rows of the position.
is_column : (c : After-powers)
    → (let a = c.args in
    let C = code_on a.alphabet in
    let i = c.loop-column.column-index in
    masked_column C c.powers.new.row (a.d / a.v + 1) a.blocks c.exponents-es.result (get_or (take c.positions.result a.matrix.now) i []) ≡ column_at C a.v a.d a.blocks a.matrix.now i)
is_column c =
    let a = c.args in
    let C = code_on a.alphabet in
    let i = c.loop-column.column-index in
    let n = c.positions.result in
    let es = c.exponents-es.result in
    let rows_of = λ (px : List ℕ) (es : List (List ℕ)) (column : List ℕ). masked_column C px (a.d / a.v + 1) a.blocks es column in
    let inside = position c in
    let read : get_or (take n a.matrix.now) i [] ≡ get_or a.matrix.now i [] = get_or-take n a.matrix.now i [] (omega arith) in
    ap (rows_of c.powers.new.row es) read ∙ ap (λ (px : List ℕ). rows_of px es (get_or a.matrix.now i [])) (of_x c)
    ∙ ap (λ (es : List (List ℕ)). rows_of (powers_row C (a.d + 1) (point C i)) es (get_or a.matrix.now i [])) c.exponents-es.ensures

pub column_rows-next-requires-clause-symbols : goal.column_rows-next-requires-clause-symbols
column_rows-next-requires-clause-symbols c =
    let a = c.args in
    let C = code_on a.alphabet in
    let F = field_on a.alphabet in
    let i = c.loop-column.column-index in
    let powers = powers_symbols C F (a.d + 1) (point C i) (point_symbol C F i) in
    let places = exponents_places a.v (omega arith) (a.blocks * block) (omega arith) in
    (subst (Symbols C) (sym (of_x (goal.at.column_rows-next-requires-clause-symbols c).After-powers)) powers, subst Places (sym c.exponents-es.ensures) places)

pub column_rows-next-requires-clause-column_in_bounds : goal.column_rows-next-requires-clause-column_in_bounds
column_rows-next-requires-clause-column_in_bounds c =
    let a = c.args in
    let l = c.loop-column in
    let after = (goal.at.column_rows-next-requires-clause-column_in_bounds c).After-powers in
    let room = joining_room l.invariant.0 _ (position after) (omega arith) in (
      subst (λ (rows : List (List ℕ)). l.next + length rows ≤ length l.rows) (sym (is_column after)) room,
      joining_clear l.invariant.0 (a.blocks * block) c.requires.matrix_in_bounds.1,
    )

pub look-a-requires : goal.look-a-requires
look-a-requires c =
    let l = c.loop-column in
    let z = (sized c.args.alphabet).least in
    (omega arith, symbol c.args.alphabet l.a l.column-index l.invariant.1)

pub loop-column-preserved : goal.loop-column-preserved
loop-column-preserved c =
    let a = c.args in
    let C = code_on a.alphabet in
    let l = c.loop-column in
    let i = l.column-index in
    let o = c.column_rows-next in
    let after = (goal.at.loop-column-preserved c).After-powers in
    let next = o.ensures.value ∙ ap (λ (rows : List (List ℕ)). l.next + length rows) (is_column after) in
    let put = o.ensures.rows_after ∙ ap (sets l.rows l.next) (is_column after) in (
      joining_more l.invariant.0 next put,
      c.look-a.ensures ∙ ap (C.times 2) l.invariant.1 ∙ sym (power_suc (numbers C) 2 i) ∙ ap (point C) (sym (add-one i)),
      subst (ZeroFrom (a.d + 1)) (sym (of_x after)) (filled_zeros _ (a.d + 1) (omega arith)),
    )
