-- From the list's answer to the program's text.
-- Assumes nothing.
use mathlib.Core.Bool.{Bool, false, cond, not}
use mathlib.Core.List.{List, [], ◌∷◌, ◌++◌, map, flatten}
use mathlib.Core.Path.{◌≡◌, refl, sym, ◌∙◌, ap, ap₂}
use Prim.Native.Nat.{ℕ, zero, suc, ◌+◌, ◌*◌, ◌-◌, ◌≤◌, ◌<◌}
use native.Mathlib.Omega.{arith}
use borrow.Author.Tests.{ne_eqb, le-ltb}
use lib.ListN.{length, drop, get_or, length-append, length-map, get_or-append}
use lib.Seq.{ext_get_or}
use Rattle.algebra.proofs.Elements.{zero_symbol}
use Rattle.algebra.proofs.Every.{all_members, length_flatten}
use Rattle.algebra.specs.FieldOf.{FieldOf}
use Rattle.definitions.proofs.Above.{above_in_order}
use Rattle.definitions.proofs.Joined.{flatten_one, flatten_append}
use Rattle.definitions.proofs.Table.{Gives, stop, pass, Accepts, end, next, gives, accepts, sizes_mean}
use Rattle.definitions.proofs.Tools.{split, map_at, length_below, map_below, map_below_at, below_zero}
use Rattle.definitions.specs.Answers.{Answer, refused, counted, rows_onto, scores_onto, read_answer, read_rows, read_scores}
use Rattle.definitions.specs.Bound.{bound}
use Rattle.definitions.specs.Field.{Code}
use Rattle.definitions.specs.Limits.{greatest_rows}
use Rattle.definitions.specs.Listing.{list_of, row_at}
use Rattle.definitions.specs.Refusals.{Line, tried, line, sizes_fit, sizes, level, limit, entries, room, columns, cost_within, read_table}
use Rattle.definitions.specs.Tools.{below}
use Rattle.definitions.specs.Weights.{matrix, cost, score}
use Rattle.ranking.proofs.Written.{Sized}
use Rattle.refusals.proofs.Unique.{refusal_number}
use Rattle.refusals.specs.Refusal.{told_refusal}
use Rattle.refusals.specs.declared.Refusal.{Refusal}
use Rattle.ranking.proofs.Memory.{rows_read}
use Rattle.output.specs.Program.{list_text, symbols_of_rows, answer_to, answer_text, Holds}
use Rattle.text.proofs.Putting.{none_lines, more_lines}
use Rattle.text.specs.Text.{listed_line, row_line, line_of, row_lines, refused_line}

-- no line of a table has the number 0, which tells a list
abbrev Numbered : List Line → Type 0
Numbered [] = Unit
Numbered (l ∷ table) = (l.number ≡ 0 → ⊥) × Numbered table

-- a table gives a refusal, or none
data Outcome (table : List Line) : Type 0 where
  refuses : (number place : ℕ) → (number ≡ 0 → ⊥) → Gives table number place → Outcome table
  lists : Accepts table → Outcome table

outcome_more : (l : Line) (table : List Line) → l.given ≡ false → Outcome table → Outcome (l ∷ table)
outcome_more l table e (refuses number place nonzero g) = refuses number place nonzero (pass e g)
outcome_more l table e (lists a) = lists (next e a)

outcome : (table : List Line) → Numbered table → Outcome table
outcome [] h = lists end
outcome (l ∷ table) h = split l.given (λ e. refuses l.number l.place h.0 (stop e)) (λ e. outcome_more l table e (outcome table h.1))

-- the rows of the list are messages: k symbols each
list_sized : (C : Code) (F : FieldOf C) (n k : ℕ) (m : List ℕ) → Sized k (list_of C n k m)
list_sized C F n k m =
    all_members (λ f. length f ≡ k) (list_of C n k m)
    (above_in_order C (zero_symbol C F) n k m (bound (k - 1) (cost m))).sized

-- no line
flatten_none : flatten {A = ℕ} [] ≡ []
unfolding flatten
flatten_none = refl

-- the lines of the rows in memory, one behind the other
lines_flat : (C : Code) (k : ℕ) (rows scores : List ℕ) (j : ℕ) → row_lines C k rows scores j ≡ flatten (map (line_of C k rows scores) (below j))
lines_flat C k rows scores zero = none_lines C k rows scores ∙ sym (ap (λ (l : List ℕ). flatten (map (line_of C k rows scores) l)) below_zero ∙ flatten_none)
lines_flat C k rows scores (suc j) =
    more_lines C k rows scores j
    ∙ ap₂ ◌++◌ (lines_flat C k rows scores j) (sym (flatten_one (line_of C k rows scores j)))
    ∙ sym (flatten_append (map (line_of C k rows scores) (below j)) (line_of C k rows scores j ∷ [])) ∙ ap flatten (sym (map_below (line_of C k rows scores) j))

-- they are the lines of the list
module _ (C : Code) (k : ℕ) (l : List (List ℕ)) (score_of : List ℕ → ℕ) (before rest rows scores : List ℕ) (sized : Sized k l)
    (er : rows ≡ rows_onto k l before) (es : scores ≡ map score_of l ++ rest) where
  row_is : (j : ℕ) → j < length l → row_at k rows j ≡ get_or l j []
  row_is j h =
      sym (map_below_at (row_at k rows) (length l) j [] h)
      ∙ ap (λ (m : List (List ℕ)). get_or m j []) (rows_read k l before rows (length l) sized refl er)

  score_is : (j : ℕ) → j < length l → get_or scores j 0 ≡ score_of (get_or l j [])
  score_is j h =
      let size : length (map score_of l) ≡ length l = length-map l score_of in
      ap (λ (m : List ℕ). get_or m j 0) es ∙ get_or-append (map score_of l) rest 0 j (omega arith) ∙ map_at score_of l j [] 0 h

  pub lines_of_list : row_lines C k rows scores (length l) ≡ flatten (map (λ (f : List ℕ). row_line C (score_of f) f) l)
  lines_of_list =
      let line : List ℕ → List ℕ = λ (f : List ℕ). row_line C (score_of f) f in
      let size : length (map (line_of C k rows scores) (below (length l))) ≡ length (map line l) =
      length-map (below (length l)) (line_of C k rows scores) ∙ length_below (length l) ∙ sym (length-map l line) in
      let size2 : length (map (line_of C k rows scores) (below (length l))) ≡ length l = length-map (below (length l)) (line_of C k rows scores) ∙ length_below (length l) in
      lines_flat C k rows scores (length l)
      ∙ ap flatten (ext_get_or [] (map (line_of C k rows scores) (below (length l))) (map line l) size (λ j h.
      let within : j < length l = omega arith in
      map_below_at (line_of C k rows scores) (length l) j [] within
      ∙ ap₂ (row_line C) (score_is j within) (row_is j within) ∙ sym (map_at line l j [] [] within)))

-- memory for as many rows as there can be, each as long as it can be, is as good as any longer one
room_enough : (C : Code) (n k L G : ℕ) (r : List ℕ) (rows scores : ℕ) → symbols_of_rows C ≤ rows → (f : ℕ → ℕ → List ℕ) (x : List ℕ)
    → tried (read_table C n k L G r rows scores) f x ≡ tried (read_table C n k L G r (symbols_of_rows C) scores) f x
room_enough C n k L G r rows scores enough f x = split (sizes_fit C n k) (λ e.
    let fits = sizes_mean C n k (ap not e) in
    ap (λ (b : Bool). tried (sizes C n k ∷ level L ∷ limit G ∷ entries (C.symbols * n) r ∷ line 4 b ∷ room greatest_rows scores ∷ columns C n r ∷ cost_within G (matrix L r) ∷ []) f x)
    (le-ltb rows (greatest_rows * k) (omega arith) ∙ sym (le-ltb (symbols_of_rows C) (greatest_rows * k) (omega arith))))
    (λ e. rw e refl)

-- the list's answer and its memory
module _ (C : Code) (F : FieldOf C) (n k L G : ℕ) (r rows₀ scores₀ : List ℕ) (a : Answer) (rows scores : List ℕ)
    (ea : a ≡ read_answer C n k L G r rows₀ scores₀) (er : rows ≡ read_rows C n k L G r rows₀ scores₀)
    (es : scores ≡ read_scores C n k L G r rows₀ scores₀) where
  abbrev table : List Line
  table = read_table C n k L G r (length rows₀) (length scores₀)

  abbrev listed : List (List ℕ)
  listed = list_of C n k (matrix L r)

  numbered : Numbered table
  numbered =
      (λ e. omega arith, (λ e. omega arith, (λ e. omega arith, (λ e. omega arith, (λ e. omega arith, (λ e. omega arith, (λ e. omega arith, (λ e. omega arith, tt))))))))

  few_symbols : Accepts table → k ≤ C.positions
  few_symbols (next e later) = let fits = sizes_mean C n k e in omega arith

  module _ (number place : ℕ) (nonzero : number ≡ 0 → ⊥) (g : Gives table number place) where
    refused_is : a ≡ refused number place
    refused_is = ea ∙ sym (gives refused (counted (length listed)) g)

    no_list : a.number ≡ 0 → ⊥
    no_list e = nonzero (sym (ap (λ (x : Answer). x.number) refused_is) ∙ e)

    refused_text : answer_text C k a rows scores ≡ tried table refused_line (list_text C n k (matrix L r))
    refused_text =
        ap (λ (x : Answer). answer_text C k x rows scores) refused_is
        ∙ ap (λ (b : Bool). cond b (listed_line 0 ++ row_lines C k rows scores 0) (refused_line number place)) (ne_eqb number 0 nonzero)
        ∙ gives refused_line (list_text C n k (matrix L r)) g

  module _ (t : Accepts table) where
    counted_is : a ≡ counted (length listed)
    counted_is = ea ∙ sym (accepts refused (counted (length listed)) t)

    rows_are : rows ≡ rows_onto k listed rows₀
    rows_are = er ∙ sym (accepts (λ _ _. rows₀) (rows_onto k listed rows₀) t)

    scores_are : scores ≡ scores_onto C n (matrix L r) listed scores₀
    scores_are = es ∙ sym (accepts (λ _ _. scores₀) (scores_onto C n (matrix L r) listed scores₀) t)

    list_held : a.count ≤ greatest_rows → (k ≤ C.positions) × (a.count ≤ greatest_rows) × (k * a.count ≤ length rows) × (a.count ≤ length scores)
    list_held few =
        let symbols = few_symbols t in
        let many : a.count ≡ length listed = ap (λ (x : Answer). x.count) counted_is in
        let product : k * a.count ≡ k * length listed = ap (λ (x : ℕ). k * x) many in
        let flat = length_flatten k listed (list_sized C F n k (matrix L r)) in
        let long : length rows ≡ length (flatten listed) + length (drop (k * length listed) rows₀) = ap length rows_are ∙ length-append (flatten listed) (drop (k * length listed) rows₀) in
        let scored : length (map (score C n (matrix L r)) listed) ≡ length listed = length-map listed (score C n (matrix L r)) in
        let wide : length scores ≡ length (map (score C n (matrix L r)) listed) + length (drop (length listed) scores₀) =
        ap length scores_are ∙ length-append (map (score C n (matrix L r)) listed) (drop (length listed) scores₀) in
        (symbols, few, omega arith, omega arith)

    list_text_lem : answer_text C k a rows scores ≡ tried table refused_line (list_text C n k (matrix L r))
    list_text_lem =
        ap (λ (x : Answer). answer_text C k x rows scores) counted_is
        ∙ ap (λ (x : List ℕ). listed_line (length listed) ++ x)
        (lines_of_list C k listed (score C n (matrix L r)) rows₀ (drop (length listed) scores₀) rows scores (list_sized C F n k (matrix L r)) rows_are scores_are)
        ∙ accepts refused_line (list_text C n k (matrix L r)) t

  pub holds : a.count ≤ greatest_rows → Holds C k a rows scores
  holds few = elim (outcome table numbered) [
    | refuses number place nonzero g ↦ λ e. absurd (no_list number place nonzero g e)
    | lists t ↦ λ _. list_held t few
  ]

  pub text_is : symbols_of_rows C ≤ length rows₀ → length scores₀ ≡ greatest_rows → answer_text C k a rows scores ≡ answer_to C n k L G r
  text_is hr hs =
      let either : answer_text C k a rows scores ≡ tried table refused_line (list_text C n k (matrix L r)) =
      elim (outcome table numbered) [
        | refuses number place nonzero g ↦ refused_text number place nonzero g
        | lists t ↦ list_text_lem t
      ] in
      either ∙ room_enough C n k L G r (length rows₀) (length scores₀) hr refused_line (list_text C n k (matrix L r))
      ∙ ap (λ (y : ℕ). tried (read_table C n k L G r (symbols_of_rows C) y) refused_line (list_text C n k (matrix L r))) hs

-- a refusal's line is the text of its answer
told_text : (C : Code) (k : ℕ) (rows scores : List ℕ) (r : Refusal) → refused_line (told_refusal r).number (told_refusal r).place ≡ answer_text C k (told_refusal r) rows scores
told_text C k rows scores r = rw (ne_eqb (told_refusal r).number 0 (refusal_number r))

pub refusal_text : (C : Code) (k : ℕ) (rows scores : List ℕ) (r : Refusal) (number place : ℕ) → number ≡ (told_refusal r).number → place ≡ (told_refusal r).place
    → refused_line number place ≡ answer_text C k (told_refusal r) rows scores
refusal_text C k rows scores r number place en ep = ap₂ refused_line en ep ∙ told_text C k rows scores r
