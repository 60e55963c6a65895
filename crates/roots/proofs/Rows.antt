-- The steps of the search: the rows below a prefix, symbol after symbol, and rows laid over the lent memory.
-- Assumes nothing.
use mathlib.Core.Bool.{Bool, true, false, cond}
use mathlib.Core.List.{List, [], ◌∷◌, ◌++◌, map, flat_map, append_assoc, append-nil}
use mathlib.Core.Path.{◌≡◌, refl, sym, ◌∙◌, ap, ap₂, subst}
use Prim.Native.Nat.{ℕ, zero, suc, ◌+◌, ◌-◌, ◌≤◌, ◌<◌}
use native.Mathlib.Nat.{add-zero}
use native.Mathlib.Numerals.{add-one}
use native.Mathlib.Omega.{arith}
use borrow.Author.Tests.{eq-eqb, ne_eqb}
use lib.ListN.{length, take, set, length-append}
use lib.Seq.{length-take-le, take-suc-set}
use Rattle.alphabet.proofs.Sizes.{sized}
use Rattle.alphabet.specs.Codes.{code_on, most_symbols}
use Rattle.alphabet.specs.declared.Alphabet.{Alphabet}
use Rattle.algebra.specs.FieldOf.{FieldOf}
use Rattle.definitions.proofs.Joined.{join_nil, join_cons, join_append, join_below, joined_room}
use Rattle.definitions.proofs.Tools.{below_zero}
use Rattle.definitions.specs.Code.{Symbols}
use Rattle.definitions.specs.Field.{Code, numbers, value}
use Rattle.definitions.specs.Tools.{below}
use Rattle.root_tree.proofs.Levels.{search_handed, under_handed}
use Rattle.root_tree.proofs.Search.{branch, search_zero, search_suc}
use Rattle.root_tree.specs.Columns.{first, columns}
use Rattle.root_tree.specs.Tree.{constants_zero, begins, next, search}
use Rattle.substitution.specs.Array.{polynomial, Handed}
use Rattle.memory.proofs.Laid.{laid_none, laid_behind}
use Rattle.memory.specs.Laid.{laid}
use Rattle.roots.specs.Rows.{DegreeWithin, rows_after}

-- ---- rows after a prefix

-- no rows
rows_none : (prefix : List ℕ) → rows_after prefix [] ≡ []
rows_none prefix = join_nil (λ (f : List ℕ). prefix ++ f)

-- one symbol more in the prefix
rows_symbol : (prefix : List ℕ) (c : ℕ) (rows : List (List ℕ)) → rows_after prefix (map (λ (f : List ℕ). c ∷ f) rows) ≡ rows_after (prefix ++ (c ∷ [])) rows
rows_symbol prefix c [] = rows_none prefix ∙ sym (rows_none (prefix ++ (c ∷ [])))
rows_symbol prefix c (f ∷ rows) =
    join_cons (λ (f : List ℕ). prefix ++ f) (c ∷ f) (map (λ (f : List ℕ). c ∷ f) rows)
    ∙ ap₂ ◌++◌ (sym (append_assoc prefix (c ∷ []) f)) (rows_symbol prefix c rows)
    ∙ sym (join_cons (λ (f : List ℕ). (prefix ++ (c ∷ [])) ++ f) f rows)

-- rows joined
rows_joined : (prefix : List ℕ) (f : ℕ → List (List ℕ)) (n : ℕ) → rows_after prefix (flat_map f (below n)) ≡ flat_map (λ (c : ℕ). rows_after prefix (f c)) (below n)
rows_joined prefix f zero =
    rw below_zero (ap (rows_after prefix) (join_nil f) ∙ rows_none prefix ∙ sym (join_nil (λ (c : ℕ). rows_after prefix (f c))))
rows_joined prefix f (suc n) =
    ap (rows_after prefix) (join_below f n) ∙ join_append (λ (f : List ℕ). prefix ++ f) (flat_map f (below n)) (f n)
    ∙ ap (λ (l : List ℕ). l ++ rows_after prefix (f n)) (rows_joined prefix f n) ∙ sym (join_below (λ (c : ℕ). rows_after prefix (f c)) n)

module _ (C : Code) where
  -- the rows of one symbol
  abbrev pub rows_of : List ℕ → ℕ → List (List ℕ) → ℕ → List ℕ
  rows_of prefix n M c = rows_after prefix (branch C n M c)

  -- and of those before g
  abbrev pub rows_before : List ℕ → ℕ → List (List ℕ) → ℕ → List ℕ
  rows_before prefix n M g = flat_map (rows_of prefix n M) (below g)

  -- before the first symbol there are none
  before_none : (prefix : List ℕ) (n : ℕ) (M : List (List ℕ)) → rows_before prefix n M 0 ≡ []
  before_none prefix n M = rw below_zero (join_nil (rows_of prefix n M))

  -- before the first symbol nothing is written
  pub before_nothing : (prefix : List ℕ) (n : ℕ) (M : List (List ℕ)) (d : List ℕ) (at : ℕ)
      → (at ≡ at + length (rows_before prefix n M 0)) × (d ≡ laid d at (rows_before prefix n M 0))
  before_nothing prefix n M d at = (rw (before_none prefix n M) (sym (add-zero at)), rw (before_none prefix n M) (laid_none d at))

  -- one symbol more
  before_more : (prefix : List ℕ) (n : ℕ) (M : List (List ℕ)) (g : ℕ) → rows_before prefix n M (g + 1) ≡ rows_before prefix n M g ++ rows_of prefix n M g
  before_more prefix n M g = ap (rows_before prefix n M) (add-one g) ∙ join_below (rows_of prefix n M) g

  -- all symbols
  pub rows_all : (prefix : List ℕ) (left : ℕ) (M : List (List ℕ)) → 0 < left → rows_after prefix (search C left M) ≡ rows_before prefix (left - 1) M C.symbols
  rows_all prefix left M h =
      let e : left ≡ suc (left - 1) = omega arith in
      ap (λ (n : ℕ). rows_after prefix (search C n M)) e ∙ ap (rows_after prefix) (search_suc C (left - 1) M)
      ∙ rows_joined prefix (branch C (left - 1) M) C.symbols

-- ---- the last level

module _ (C : Code) (row : List ℕ) (k left : ℕ) (M : List (List ℕ)) (z : left ≡ 0) where
  -- with no level left, as the last test says
  leaf_rows : (b : Bool) → constants_zero M ≡ b → rows_after (take (k - left) row) (search C left M) ≡ rows_after (take k row) (cond b ([] ∷ []) [])
  leaf_rows b e =
      let f : k - left ≡ k = omega arith in
      ap₂ (λ (n m : ℕ). rows_after (take n row) (search C m M)) f z
      ∙ ap (rows_after (take k row)) (search_zero C M ∙ ap (λ (b : Bool). cond {A = List (List ℕ)} b ([] ∷ []) []) e)

  -- a root
  leaf_root : true ≡ constants_zero M → rows_after (take (k - left) row) (search C left M) ≡ take k row
  leaf_root e =
      leaf_rows true (sym e) ∙ join_cons (λ (f : List ℕ). take k row ++ f) [] [] ∙ ap (λ (l : List ℕ). (take k row ++ []) ++ l) (rows_none (take k row))
      ∙ append-nil (take k row ++ []) ∙ append-nil (take k row)

  -- its row has k entries
  pub leaf_root_length : true ≡ constants_zero M → k ≤ length row → length (rows_after (take (k - left) row) (search C left M)) ≡ k
  leaf_root_length e h = ap length (leaf_root e) ∙ length-take-le k row h

  -- its row is what is written
  pub leaf_written : true ≡ constants_zero M → (d r : List ℕ) (at : ℕ) → r ≡ laid d at (take k row)
      → r ≡ laid d at (rows_after (take (k - left) row) (search C left M))
  leaf_written e d r at w = w ∙ ap (laid d at) (sym (leaf_root e))

  -- none
  leaf_none : false ≡ constants_zero M → rows_after (take (k - left) row) (search C left M) ≡ []
  leaf_none e = leaf_rows false (sym e) ∙ rows_none (take k row)

  -- so nothing is written
  pub leaf_nothing : false ≡ constants_zero M → (d : List ℕ) (at : ℕ)
      → (at ≡ at + length (rows_after (take (k - left) row) (search C left M))) × (d ≡ laid d at (rows_after (take (k - left) row) (search C left M)))
  leaf_nothing e d at = (rw (leaf_none e) (sym (add-zero at)), rw (leaf_none e) (laid_none d at))

-- a row has an entry for each symbol of a message
pub row_holds : (w : Alphabet) (row : List ℕ) (k : ℕ) → length row ≡ most_symbols → k ≤ (code_on w).positions → k ≤ length row
row_holds w row k e h = let z = sized w in let p = z.points in let m = z.most in omega arith

-- ---- one symbol tried

-- the first column
front_column : (C : Code) (h D : ℕ) (p : List ℕ) → first (numbers C) (polynomial C h (suc D) p) ≡ take h p
unfolding first columns
front_column C h D p = refl

-- of an array of D + 1 columns
first_of : (C : Code) (h D : ℕ) (p : List ℕ) → first (numbers C) (polynomial C h (D + 1) p) ≡ take h p
first_of C h D p = ap (λ (n : ℕ). first (numbers C) (polynomial C h n p)) (add-one D) ∙ front_column C h D p

module _ (C : Code) (h D g : ℕ) (p : List ℕ) (y : ℕ) (e : y ≡ value (numbers C) g (take h p)) where
  -- M(0, g)
  first_value : value (numbers C) g (first (numbers C) (polynomial C h (D + 1) p)) ≡ y
  first_value = ap (value (numbers C) g) (first_of C h D p) ∙ sym e

  -- where it is zero g is gone on with
  pub begins_yes : y ≡ 0 → begins C g (polynomial C h (D + 1) p) ≡ true
  unfolding begins
  begins_yes z = eq-eqb (value (numbers C) g (first (numbers C) (polynomial C h (D + 1) p))) 0 (first_value ∙ z)

  -- where it is not g is left
  pub begins_no : (y ≡ 0 → ⊥) → begins C g (polynomial C h (D + 1) p) ≡ false
  unfolding begins
  begins_no n = ne_eqb (value (numbers C) g (first (numbers C) (polynomial C h (D + 1) p))) 0 (λ z. n (sym first_value ∙ z))

-- a symbol that begins no root
pub tried_none : (C : Code) (prefix : List ℕ) (n : ℕ) (M : List (List ℕ)) (d : List ℕ) (at : ℕ) (out : List ℕ) (end g : ℕ)
    → end ≡ at + length (rows_before C prefix n M g) → out ≡ laid d at (rows_before C prefix n M g) → begins C g M ≡ false
    → (end ≡ at + length (rows_before C prefix n M (g + 1))) × (out ≡ laid d at (rows_before C prefix n M (g + 1)))
tried_none C prefix n M d at out end g he ho b =
    let f : rows_of C prefix n M g ≡ [] =
    ap (λ (b : Bool). rows_after prefix (cond b (map (λ (f : List ℕ). g ∷ f) (search C n (next C g M))) [])) b ∙ rows_none prefix in
    let e : rows_before C prefix n M (g + 1) ≡ rows_before C prefix n M g =
    before_more C prefix n M g ∙ ap (λ (l : List ℕ). rows_before C prefix n M g ++ l) f ∙ append-nil (rows_before C prefix n M g) in
    (rw e he, rw e ho)

-- where g begins a root: the degree of what is handed on is within the array, its rows have room, and
-- are written behind those before
pub record GoneOn (C : Code) (k left D h : ℕ) (row p d : List ℕ) (at : ℕ) (out : List ℕ) (end g : ℕ) (r : List ℕ) : Type 0 where
  pub within : DegreeWithin C (left - 1 - 1) D h r
  pub room : end + length (rows_after (take (k - (left - 1)) (set row (k - left) g)) (search C (left - 1) (polynomial C h (D + 1) r))) ≤ length d
  pub written : (e : ℕ) (o : List ℕ)
      → e ≡ end + length (rows_after (take (k - (left - 1)) (set row (k - left) g)) (search C (left - 1) (polynomial C h (D + 1) r)))
      → o ≡ laid out end (rows_after (take (k - (left - 1)) (set row (k - left) g)) (search C (left - 1) (polynomial C h (D + 1) r)))
      → (e ≡ at + length (rows_before C (take (k - left) row) (left - 1) (polynomial C h (D + 1) p) (g + 1)))
      × (o ≡ laid d at (rows_before C (take (k - left) row) (left - 1) (polynomial C h (D + 1) p) (g + 1)))

module _ (C : Code) (F : FieldOf C) (k left D h : ℕ) (row p : List ℕ) (d : List ℕ) (at : ℕ) (out : List ℕ) (end g : ℕ)
    (hg : g < C.symbols) (pos : 0 < left) (fits : left ≤ k) (long : k ≤ length row)
    (room : at + length (rows_after (take (k - left) row) (search C left (polynomial C h (D + 1) p))) ≤ length d)
    (he : end ≡ at + length (rows_before C (take (k - left) row) (left - 1) (polynomial C h (D + 1) p) g))
    (ho : out ≡ laid d at (rows_before C (take (k - left) row) (left - 1) (polynomial C h (D + 1) p) g))
    (h0 : 0 < h) (sp : Symbols C p) (u : DegreeWithin C (left - 1) D h p) (b : begins C g (polynomial C h (D + 1) p) ≡ true)
    (r : List ℕ) (sr : Symbols C r) (q : Handed C h (D + 1) g p r) where
  -- the polynomial
  abbrev M : List (List ℕ)
  M = polynomial C h (D + 1) p

  -- the symbols fixed so far
  abbrev prefix : List ℕ
  prefix = take (k - left) row

  -- the rows of the recursive call
  abbrev rows : List ℕ
  rows = rows_after (take (k - (left - 1)) (set row (k - left) g)) (search C (left - 1) (polynomial C h (D + 1) r))

  -- the degree of what is handed on is within the array
  handed_within : DegreeWithin C (left - 1 - 1) D h r
  handed_within = under_handed C F h D h0 g hg p q.0 r sp q.1 sr q.2 q.3 (left - 1) u

  -- its prefix is one symbol longer
  longer : take (k - (left - 1)) (set row (k - left) g) ≡ prefix ++ (g ∷ [])
  longer =
      let e : k - (left - 1) ≡ suc (k - left) = omega arith in
      ap (λ (n : ℕ). take n (set row (k - left) g)) e ∙ take-suc-set row (k - left) g (omega arith)

  -- its rows are those of the symbol
  handed_rows : rows_of C prefix (left - 1) M g ≡ rows
  handed_rows =
      ap (λ (b : Bool). rows_after prefix (cond b (map (λ (f : List ℕ). g ∷ f) (search C (left - 1) (next C g M))) [])) b
      ∙ rows_symbol prefix g (search C (left - 1) (next C g M))
      ∙ ap₂ rows_after (sym longer) (sym (search_handed C F h D h0 g hg p q.0 r sp q.1 sr q.2 q.3 (left - 1) u))

  -- all symbols have room
  all_room : at + length (rows_before C prefix (left - 1) M C.symbols) ≤ length d
  all_room = subst (λ (l : List ℕ). at + length l ≤ length d) (rows_all C prefix left M pos) room

  -- they have room
  handed_room : end + length (rows_after (take (k - (left - 1)) (set row (k - left) g)) (search C (left - 1) (polynomial C h (D + 1) r))) ≤ length d
  handed_room =
      let a = joined_room (rows_of C prefix (left - 1) M) C.symbols g hg in
      let c = ap length handed_rows in
      let f = all_room in
      omega arith

  -- and are written behind those before
  tried_some : (e : ℕ) (o : List ℕ)
      → e ≡ end + length (rows_after (take (k - (left - 1)) (set row (k - left) g)) (search C (left - 1) (polynomial C h (D + 1) r)))
      → o ≡ laid out end (rows_after (take (k - (left - 1)) (set row (k - left) g)) (search C (left - 1) (polynomial C h (D + 1) r)))
      → (e ≡ at + length (rows_before C (take (k - left) row) (left - 1) (polynomial C h (D + 1) p) (g + 1)))
      × (o ≡ laid d at (rows_before C (take (k - left) row) (left - 1) (polynomial C h (D + 1) p) (g + 1)))
  tried_some e o ee eo =
      let f : rows_before C prefix (left - 1) M (g + 1) ≡ rows_before C prefix (left - 1) M g ++ rows =
      before_more C prefix (left - 1) M g ∙ ap (λ (l : List ℕ). rows_before C prefix (left - 1) M g ++ l) handed_rows in
      let n : length (rows_before C prefix (left - 1) M (g + 1)) ≡ length (rows_before C prefix (left - 1) M g) + length rows =
      ap length f ∙ length-append (rows_before C prefix (left - 1) M g) rows in
      let a = joined_room (rows_of C prefix (left - 1) M) C.symbols g hg in
      let w = all_room in (
        omega arith,
        eo ∙ ap (λ (x : List ℕ). laid x end rows) ho ∙ laid_behind d at (rows_before C prefix (left - 1) M g) rows end (omega arith) he
            ∙ ap (laid d at) (sym f),
      )

  -- all of it together
  pub gone_on : GoneOn C k left D h row p d at out end g r
  gone_on = record { within = handed_within; room = handed_room; written = tried_some }
