-- The text tells the list: inputs of which not the same is told are never answered by the same bytes.
-- Assumes nothing.
use mathlib.Core.List.{List, [], ◌∷◌, ◌++◌, map, flatten, nil≢cons}
use mathlib.Core.Path.{◌≡◌, refl, sym, ◌∙◌, ap, ap₂}
use Prim.Native.Nat.{ℕ, ◌-◌}
use native.Mathlib.Omega.{arith}
use lib.Dec.{ltb}
use lib.ListN.{length, drop, get_or, length-map}
use Rattle.alphabet.specs.Codes.{code_on}
use Rattle.alphabet.specs.declared.Alphabet.{Alphabet}
use Rattle.algebra.proofs.Elements.{zero_symbol}
use Rattle.algebra.proofs.Every.{All, all_members, all_map}
use Rattle.definitions.proofs.Above.{above_in_order}
use Rattle.definitions.proofs.Tools.{split}
use Rattle.definitions.specs.Bound.{bound}
use Rattle.definitions.specs.Code.{Symbols}
use Rattle.definitions.specs.Limits.{greatest_rows}
use Rattle.definitions.specs.Listing.{list_of}
use Rattle.definitions.specs.Refusals.{Line, tried, line, read_table}
use Rattle.definitions.specs.Weights.{matrix, cost, score}
use Rattle.instances.proofs.Codes.{field_on}
use Rattle.numbers.specs.Numbers.{numbers_of}
use Rattle.output.specs.Program.{list_text, symbols_of_rows, header_bytes, output}
use Rattle.output.specs.Told.{Told, refusal, list, scored_list, told, TextTells}
use Rattle.text.proofs.Putting.{puts_words}
use Rattle.text.proofs.Reading.{row_told, refused_told, listed_told, listed_or_refused}
use Rattle.text.specs.Text.{listed_line, row_line, refused_line}

-- two ways to take one table: what is related for each refusal, and where none is given, is related
tried_alike : {A B : Type 0} (R : A → B → Type 0) (f : ℕ → ℕ → A) (g : ℕ → ℕ → B) (x : A) (y : B) (table : List Line)
    → ((number place : ℕ) → R (f number place) (g number place)) → R x y → R (tried table f x) (tried table g y)
tried_alike R f g x y [] refuses lists = lists
tried_alike R f g x y (l ∷ table) refuses lists =
    split l.given (λ t. rw t (refuses l.number l.place)) (λ e. rw e (tried_alike R f g x y table refuses lists))

module _ (w : Alphabet) where
  -- the lines of rows
  lines_of : List (ℕ × List ℕ) → List ℕ
  lines_of [] = []
  lines_of (r ∷ l) = row_line (code_on w) r.0 r.1 ++ lines_of l

  -- the text of what is told
  text_of : Told → List ℕ
  text_of (refusal number place) = refused_line number place
  text_of (list l) = listed_line (length l) ++ lines_of l

  -- the rows that are told are messages
  abbrev Messages : Told → Type 0
  Messages (refusal number place) = Unit
  Messages (list l) = All (λ (r : ℕ × List ℕ). Symbols (code_on w) r.1) l

  -- their lines tell them
  lines_told : (l m : List (ℕ × List ℕ)) → Messages (list l) → Messages (list m) → lines_of l ≡ lines_of m → l ≡ m
  unfolding lines_of
  lines_told [] [] p q e = refl
  lines_told [] (r ∷ m) p q e = absurd (nil≢cons e)
  lines_told (r ∷ l) [] p q e = absurd (nil≢cons (sym e))
  lines_told (r ∷ l) (s ∷ m) p q e =
      let (scores, messages, rest) = row_told w r.0 s.0 r.1 s.1 (lines_of l) (lines_of m) p.0 q.0 e in
      ap₂ ◌∷◌ (ap₂ {C = ℕ × List ℕ} (λ s f. (s, f)) scores messages) (lines_told l m p.1 q.1 rest)

  text_told : (t u : Told) → Messages t → Messages u → text_of t ≡ text_of u → t ≡ u
  unfolding text_of
  text_told (refusal number place) (refusal other at) p q e = let (numbers, places) = refused_told number place other at e in ap₂ refusal numbers places
  text_told (refusal number place) (list l) p q e = absurd (listed_or_refused (length l) number place (lines_of l) (sym e))
  text_told (list l) (refusal number place) p q e = absurd (listed_or_refused (length l) number place (lines_of l) e)
  text_told (list l) (list m) p q e = ap list (lines_told l m p q (listed_told (length l) (length m) (lines_of l) (lines_of m) e).1)

  -- a text is that of what is told, whose rows are messages
  abbrev Tells : List ℕ → Told → Type 0
  Tells text t = (text ≡ text_of t) × Messages t

  -- the lines of rows, one behind the other
  lines_flat : (score_of : List ℕ → ℕ) (l : List (List ℕ))
      → flatten (map (λ (f : List ℕ). row_line (code_on w) (score_of f) f) l) ≡ lines_of (map {B = ℕ × List ℕ} (λ (f : List ℕ). (score_of f, f)) l)
  unfolding lines_of flatten
  lines_flat score_of [] = refl
  lines_flat score_of (f ∷ l) = ap (λ (rest : List ℕ). row_line (code_on w) (score_of f) f ++ rest) (lines_flat score_of l)

  list_tells : (n k : ℕ) (m : List ℕ) → Tells (list_text (code_on w) n k m) (list (scored_list (code_on w) n k m))
  unfolding text_of
  list_tells n k m =
      let C = code_on w in
      let l = list_of C n k m in
      let scored : List ℕ → ℕ × List ℕ = λ (f : List ℕ). (score C n m f, f) in
      let messages = (above_in_order C (zero_symbol C (field_on w)) n k m (bound (k - 1) (cost m))).symbols in (
        ap₂ (λ (count : ℕ) (lines : List ℕ). listed_line count ++ lines) (sym (length-map l scored)) (lines_flat (score C n m) l),
        all_map (λ (r : ℕ × List ℕ). Symbols C r.1) scored l (all_members (Symbols C) l messages),
      )

  refusal_tells : (number place : ℕ) → Tells (refused_line number place) (refusal number place)
  unfolding text_of
  refusal_tells number place = (refl, tt)

  output_tells : (input : List ℕ) → Tells (output (code_on w) input) (told (code_on w) input)
  output_tells input =
      let n = get_or input 0 0 in
      let k = get_or input 1 0 in
      let L = get_or input 2 0 in
      let r = numbers_of (drop header_bytes input) in
      tried_alike Tells refused_line refusal (list_text (code_on w) n k (matrix L r)) (list (scored_list (code_on w) n k (matrix L r)))
      (line 3 (ltb (length input) header_bytes) ∷ read_table (code_on w) n k L (get_or input 3 0) r (symbols_of_rows (code_on w)) greatest_rows) refusal_tells (list_tells n k (matrix L r))

  -- inputs that are answered by the same bytes have the same told of them, refusals too
  same_text : (a b : List ℕ) → output (code_on w) a ≡ output (code_on w) b → told (code_on w) a ≡ told (code_on w) b
  same_text a b e =
      let (ta, ma) = output_tells a in
      let (tb, mb) = output_tells b in
      text_told (told (code_on w) a) (told (code_on w) b) ma mb (sym ta ∙ e ∙ tb)

  pub text_tells : TextTells (code_on w)
  text_tells = record {
    one_output = λ input out after other end last p q. (p.0 ∙ sym q.0, p.2 ∙ sym q.2);
    same_text = λ a b e. same_text a b e;
    same_bytes = λ a b e. (output_tells a).0 ∙ ap text_of e ∙ sym (output_tells b).0;
    lists_apart = λ a b l m ea eb other e. (let same = same_text a b e in other (cc));
    list_or_refusal = λ a b l number place ea eb e. (let same = same_text a b e in let z : ◌≡◌ {A = ℕ} 0 1 = cc in omega arith);
    written_tells = λ a b out other after later end last p q e.
        same_text a b (sym (puts_words out after (output (code_on w) a) end p) ∙ e ∙ puts_words other later (output (code_on w) b) last q);
  }
