-- The program's input: its header, the numbers behind it, and that what is too long is answered as its beginning is.
-- Assumes nothing.
use mathlib.Core.Bool.{Bool, true, cond, not}
use mathlib.Core.List.{List, [], ◌∷◌, ◌++◌}
use mathlib.Core.Path.{◌≡◌, refl, sym, ◌∙◌, ap}
use Prim.Native.Nat.{ℕ, ◌+◌, ◌*◌, ◌-◌, ◌/◌, ◌%◌, ◌≤◌, ◌<◌}
use native.Mathlib.Nat.{mul-le-mul_left}
use native.Mathlib.Omega.{arith}
use borrow.Author.Tests.{ne_eqb, lt-ltb, le-ltb}
use lib.Dec.{eqb}
use lib.ListN.{length, take, drop, get_or, length-append, length-drop, length-map}
use lib.Seq.{get_or-take, length-take-le, take_all, take_at}
use Rattle.definitions.proofs.Table.{sizes_mean}
use Rattle.definitions.proofs.Tools.{split, length_below}
use Rattle.definitions.specs.Field.{Code}
use Rattle.definitions.specs.Held.{places}
use Rattle.definitions.specs.Limits.{greatest_rows}
use Rattle.definitions.specs.Refusals.{Line, tried, line, sizes_fit, sizes, level, limit, entries, room, columns, cost_within}
use Rattle.definitions.specs.Tools.{below}
use Rattle.definitions.specs.Weights.{matrix}
use Rattle.output.specs.Program.{list_text, symbols_of_rows, answer_to, header_bytes, output}
use Rattle.output.specs.Rooms.{longest_of}
use Rattle.numbers.specs.Numbers.{number_at, numbers_of}
use Rattle.text.specs.Text.{refused_line}

-- the answer to an input that has a header
abbrev headed : Code → List ℕ → List ℕ
headed C input = answer_to C (get_or input 0 0) (get_or input 1 0) (get_or input 2 0) (get_or input 3 0) (numbers_of (drop header_bytes input))

-- fewer bytes than the header has, and others
pub no_header : (C : Code) (input : List ℕ) → length input < header_bytes → refused_line 3 0 ≡ output C input
no_header C input h = sym (ap (λ (b : Bool). cond b (refused_line 3 0) (headed C input)) (lt-ltb (length input) header_bytes h))

pub header : (C : Code) (input r : List ℕ) (n k L G : ℕ) → header_bytes ≤ length input → n ≡ get_or input 0 0 → k ≡ get_or input 1 0 → L ≡ get_or input 2 0 → G ≡ get_or input 3 0
    → r ≡ numbers_of (drop header_bytes input) → answer_to C n k L G r ≡ output C input
header C input r n k L G h en ek e_l e_g er =
    rw (en, ek, e_l, e_g, er) (sym (ap (λ (b : Bool). cond b (refused_line 3 0) (headed C input)) (le-ltb (length input) header_bytes h)))

-- the numbers in front of a memory
pub in_front : (words rest now : List ℕ) (count : ℕ) → count ≡ length words → now ≡ words ++ rest → take count now ≡ words
in_front words rest now count ec en = ap (take count) en ∙ take_at words rest count (sym ec)

-- they lie within it
pub front_within : (words rest now : List ℕ) (count : ℕ) → count ≡ length words → now ≡ words ++ rest → count ≤ length now
front_within words rest now count ec en = let size : length now ≡ length words + length rest = ap length en ∙ length-append words rest in omega arith

-- the bytes behind the header
pub bytes_are : (input : List ℕ) → take (length input - header_bytes) (drop header_bytes input) ≡ drop header_bytes input
bytes_are input = let size = length-drop header_bytes input in take_all (length input - header_bytes) (drop header_bytes input) (omega arith)

-- tables that begin alike and then both refuse a length, whatever they would make of it later
both_refuse : (a b c : Line) (g h : Bool) (s t : List Line) (f : ℕ → ℕ → List ℕ) (x y : List ℕ) → g ≡ true → h ≡ true
    → tried (a ∷ b ∷ c ∷ line 3 g ∷ s) f x ≡ tried (a ∷ b ∷ c ∷ line 3 h ∷ t) f y
both_refuse a b c g h s t f x y eg eh = rw (eg, eh) refl

sizes_refuse : (g : Bool) (s t : List Line) (f : ℕ → ℕ → List ℕ) (x y : List ℕ) → g ≡ true → tried (line 1 g ∷ s) f x ≡ tried (line 1 g ∷ t) f y
sizes_refuse g s t f x y eg = rw eg refl

-- as many numbers as no list has
abbrev WrongLength : Code → List ℕ → Type 0
WrongLength C r = (n : ℕ) → 2 ≤ n → n ≤ C.positions → length r ≡ C.symbols * n → ⊥

-- two inputs of a wrong length
module _ (C : Code) (n k L G : ℕ) where
  -- the lines of the table after that of the length, and after that of the sizes
  abbrev after_length : List ℕ → List Line
  after_length r = room (greatest_rows * k) (symbols_of_rows C) ∷ room greatest_rows greatest_rows ∷ columns C n r ∷ cost_within G (matrix L r) ∷ []

  abbrev after_sizes : List ℕ → List Line
  after_sizes r = level L ∷ limit G ∷ entries (C.symbols * n) r ∷ after_length r

  wrong_lengths : (r q : List ℕ) → WrongLength C r → WrongLength C q → answer_to C n k L G r ≡ answer_to C n k L G q
  wrong_lengths r q wr wq =
      let wrong : List ℕ → Bool = λ (l : List ℕ). not (eqb (length l) (C.symbols * n)) in
      let text : List ℕ → List ℕ = λ (l : List ℕ). list_text C n k (matrix L l) in
      split (sizes_fit C n k) (λ e.
      let fits = sizes_mean C n k (ap not e) in
      both_refuse (sizes C n k) (level L) (limit G) (wrong r) (wrong q) (after_length r) (after_length q) refused_line (text r) (text q)
      (ap not (ne_eqb (length r) (C.symbols * n) (wr n (omega arith) (omega arith)))) (ap not (ne_eqb (length q) (C.symbols * n) (wq n (omega arith) (omega arith)))))
      (λ e. sizes_refuse (not (sizes_fit C n k)) (after_sizes r) (after_sizes q) refused_line (text r) (text q) (ap not e))

-- more bytes than those of as many numbers as there are places, and one, hold no list's numbers
too_many : (C : Code) → 0 < C.symbols → (b : List ℕ) → 2 * places C + 1 < length b → WrongLength C (numbers_of b)
too_many C pos b h n low high e =
    let few : C.symbols * n ≤ places C = mul-le-mul_left C.symbols high in
    let some : C.symbols * 2 ≤ C.symbols * n = mul-le-mul_left C.symbols low in
    split (eqb (length b % 2) 0) (λ t.
    let size : length (numbers_of b) ≡ length b / 2 = rw t (length-map (below (length b / 2)) (number_at b) ∙ length_below (length b / 2)) in
    omega arith)
    (λ t.
    let none : length (numbers_of b) ≡ 0 = rw t refl in
    omega arith)

-- an input that is too long is answered as its beginning is
pub beginning : (C : Code) → 0 < C.symbols → (most : ℕ) → most ≡ longest_of C → (input : List ℕ) → most < length input → output C (take most input) ≡ output C input
beginning C pos most e input h =
    let cut = take most input in
    let size : length cut ≡ most = length-take-le most input (omega arith) in
    let short = length-drop header_bytes cut in
    let long = length-drop header_bytes input in
    let same : (i : ℕ) → i < header_bytes → get_or input i 0 ≡ get_or cut i 0 = λ i low. sym (get_or-take most input i 0 (omega arith)) in
    let n = get_or input 0 0 in
    let k = get_or input 1 0 in
    let L = get_or input 2 0 in
    let G = get_or input 3 0 in
    sym (header C cut (numbers_of (drop header_bytes cut)) n k L G (omega arith) (same 0 (omega arith)) (same 1 (omega arith)) (same 2 (omega arith)) (same 3 (omega arith)) refl)
    ∙ wrong_lengths C n k L G (numbers_of (drop header_bytes cut)) (numbers_of (drop header_bytes input))
    (too_many C pos (drop header_bytes cut) (omega arith)) (too_many C pos (drop header_bytes input) (omega arith))
    ∙ header C input (numbers_of (drop header_bytes input)) n k L G (omega arith) refl refl refl refl refl
