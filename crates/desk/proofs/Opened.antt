-- As far as half the distance the counter opens the true ticket: it stands first and leads by L, and the counter takes what the list writes.
-- Assumes nothing.
use mathlib.Core.Bool.{Bool, true, false, cond, not, ◌&&◌}
use mathlib.Core.List.{List, [], ◌∷◌, map, flatten, Memᴰ}
use mathlib.Core.Logic.{◌≢◌}
use mathlib.Core.Path.{◌≡◌, refl, sym, ◌∙◌, ap, ap₂}
use Prim.Native.Nat.{ℕ, ◌+◌, ◌-◌, ◌*◌, ◌≤◌}
use native.Mathlib.Nat.{mul-zero}
use native.Mathlib.Omega.{arith}
use borrow.Author.Tests.{le-leb, ne_eqb}
use denote.Ref.{Bor}
use lib.Dec.{eqb}
use lib.ListN.{length, take, drop, length-map}
use lib.Seq.{take_at}
use Rattle.algebra.proofs.Elements.{zero_symbol}
use Rattle.algebra.proofs.Every.{All, all_members, length_flatten}
use Rattle.algebra.specs.FieldOf.{FieldOf}
use Rattle.audit.proofs.Desk.{desk}
use Rattle.audit.specs.Desk.{First, Answered}
use Rattle.audit.specs.Marks.{matrix_of}
use Rattle.counter.proofs.Lists.{list_judged, lists_judged}
use Rattle.counter.specs.Judging.{to_open, to_ask, judged, apart, of_judged, both_judged, judge_answer, both_answer}
use Rattle.counter.specs.declared.Settings.{Settings}
use Rattle.definitions.proofs.Above.{above_in_order}
use Rattle.definitions.proofs.Table.{sizes_pass, size_passes, level_passes}
use Rattle.definitions.proofs.Tools.{split}
use Rattle.definitions.specs.Answers.{Answer, valued}
use Rattle.definitions.specs.Bound.{bound}
use Rattle.definitions.specs.Field.{Code, sixteen}
use Rattle.definitions.specs.Listing.{list_of, row_at}
use Rattle.definitions.specs.Refusals.{size, sizes, level}
use Rattle.definitions.specs.Weights.{cost, score}
use Rattle.desk.specs.Opened.{Photograph, rows_listed, scores_listed, AtTheCounter}
use Rattle.instances.proofs.Codes.{sixteen_field}
use Rattle.opening.specs.Handing.{opened, both_opened, is_open, front}
use Rattle.rows.proofs.Messages.{same_self, same_means}
use Rattle.rows.proofs.Written.{rows_written, scores_written}
use Rattle.rows.specs.Rows.{same}

-- where the first leads by L it leads by less
judged_first : (g L : ℕ) (score_of : List ℕ → ℕ) (f : List ℕ) (rest : List (List ℕ)) → g ≤ L → ((h : List ℕ) → Memᴰ h rest → score_of h + L ≤ score_of f)
    → judged g (map score_of (f ∷ rest)) ≡ to_open
judged_first g L score_of f [] few leads = refl
judged_first g L score_of f (h ∷ rest) few leads =
    let less = leads h (Memᴰ.head refl) in
    ap (λ (t : Bool). cond t to_open to_ask) (le-leb (score_of h + g) (score_of f) (omega arith))

module _ (C : Code) (F : FieldOf C) (s : Settings) (G : ℕ) (f word rows scores : List ℕ) (p : Photograph C s G f word rows scores) where
  abbrev n : ℕ
  n = s.n

  abbrev k : ℕ
  k = s.k

  abbrev L : ℕ
  L = s.level

  abbrev m : List ℕ
  m = matrix_of C L word

  abbrev l : List (List ℕ)
  l = list_of C n k m

  told : Answered C n k L G word rows scores l
  told = (desk C F).answered n k L G word rows scores p.sizes p.level p.limit p.marks p.rows_room p.scores_room p.price

  first : First C n k L f word
  first = (desk C F).worn n k L f word p.sizes p.level.0 p.message p.marks p.worn

  -- what is listed is what the counter takes
  rows_are : rows_listed C s G word rows scores ≡ rows_written C (zero_symbol C F) n k m (bound (k - 1) (cost m)) rows scores
  rows_are = ap₂ (λ (c : ℕ) (r : List ℕ). take (k * c) r) (ap (λ (a : Answer). a.count) told.answer) told.rows_are

  scores_are : scores_listed C s G word rows scores ≡ scores_written C (zero_symbol C F) n k m (bound (k - 1) (cost m)) rows scores
  scores_are = ap₂ (λ (c : ℕ) (r : List ℕ). take c r) (ap (λ (a : Answer). a.count) told.answer) told.scores_are

  -- the rows and the scores, told by the list
  sized : All (λ (h : List ℕ). length h ≡ k) l
  sized = all_members (λ h. length h ≡ k) l (above_in_order C (zero_symbol C F) n k m (bound (k - 1) (cost m))).sized

  rows_told : rows_listed C s G word rows scores ≡ flatten (f ∷ first.rest)
  rows_told = rows_are ∙ take_at (flatten l) (drop (k * length l) rows) (k * length l) (length_flatten k l sized) ∙ ap flatten first.first

  scores_told : scores_listed C s G word rows scores ≡ map (score C n m) (f ∷ first.rest)
  scores_told =
      scores_are ∙ take_at (map (score C n m) l) (drop (length l) scores) (length l) (length-map l (score C n m)) ∙ ap (map (score C n m)) first.first

  -- the first row is the message
  front_row : take k (rows_listed C s G word rows scores) ≡ f
  unfolding flatten
  front_row = ap (take k) rows_told ∙ take_at f (flatten first.rest) k p.message.0

  first_row : row_at k (rows_listed C s G word rows scores) 0 ≡ f
  first_row = ap (λ (j : ℕ). take k (drop j (rows_listed C s G word rows scores))) (mul-zero k) ∙ front_row

  some_row : eqb (length (scores_listed C s G word rows scores)) 0 ≡ false
  some_row = ne_eqb (length (scores_listed C s G word rows scores)) 0 (λ e. let many = ap length scores_told in let z : ⊥ = omega arith in z)

  fits : (size C k).given ≡ false
  fits = let sizes = p.sizes in size_passes C k sizes.0 (omega arith)

  sizes_fit_lem : (sizes C n k).given ≡ false
  sizes_fit_lem = sizes_pass C n k p.sizes.0 p.sizes.1 p.sizes.2

  level_fits_lem : (level L).given ≡ false
  level_fits_lem = level_passes L p.level.0 p.level.1

  module _ (g : ℕ) (some : 1 ≤ g) where
    verdict_told : judge_answer C k (rows_listed C s G word rows scores) (scores_listed C s G word rows scores) g ≡ valued (judged g (scores_listed C s G word rows scores))
    verdict_told =
        ap₂ (λ (r c : List ℕ). judge_answer C k r c g) rows_are scores_are
        ∙ list_judged C (zero_symbol C F) n k g some m (bound (k - 1) (cost m)) rows scores fits ∙ ap (λ (c : List ℕ). valued (judged g c)) (sym scores_are)

    module _ (low : g ≤ L) where
      judged_open : judged g (scores_listed C s G word rows scores) ≡ to_open
      judged_open = ap (judged g) scores_told ∙ judged_first g L (score C n m) f first.rest low first.leads

      opens : judge_answer C k (rows_listed C s G word rows scores) (scores_listed C s G word rows scores) g ≡ valued to_open
      opens = verdict_told ∙ ap valued judged_open

      hands_back : (r : Bor (List ℕ)) → r.now ≡ rows_listed C s G word rows scores → (opened C k r (scores_listed C s G word rows scores) g).1 ≡ f
      hands_back r is =
          let open_is : is_open (judge_answer C k r.now (scores_listed C s G word rows scores) g) ≡ true =
          ap (λ (x : List ℕ). is_open (judge_answer C k x (scores_listed C s G word rows scores) g)) is ∙ ap is_open opens in
          ap (λ (t : Bool). (cond t (front k r) (front 0 r)).1) open_is ∙ ap (take k) is ∙ front_row

-- ---- two photographs

module _ (C : Code) (F : FieldOf C) (s : Settings) (G : ℕ) (f h word rows scores other others other_scores : List ℕ)
    (p : Photograph C s G f word rows scores) (q : Photograph C s G h other others other_scores) (g : ℕ) (some : 1 ≤ g) where
  -- rows with their scores
  abbrev Listed : Type 0
  Listed = List ℕ × List ℕ

  abbrev one : Listed
  one = (rows_listed C s G word rows scores, scores_listed C s G word rows scores)

  abbrev two : Listed
  two = (rows_listed C s G other others other_scores, scores_listed C s G other others other_scores)

  both_told : both_answer C s one.0 one.1 s two.0 two.1 g ≡ valued (both_judged s.k g one.0 one.1 two.0 two.1)
  both_told =
      let pos = zero_symbol C F in
      let m = matrix_of C s.level word in
      let o = matrix_of C s.level other in
      let t = bound (s.k - 1) (cost m) in
      let u = bound (s.k - 1) (cost o) in
      let left : one ≡ (rows_written C pos s.n s.k m t rows scores, scores_written C pos s.n s.k m t rows scores) =
      ap₂ {C = Listed} (λ a b. (a, b)) (rows_are C F s G f word rows scores p) (scores_are C F s G f word rows scores p) in
      let right : two ≡ (rows_written C pos s.n s.k o u others other_scores, scores_written C pos s.n s.k o u others other_scores) =
      ap₂ {C = Listed} (λ a b. (a, b)) (rows_are C F s G h other others other_scores q) (scores_are C F s G h other others other_scores q) in
      ap₂ (λ (a b : Listed). both_answer C s a.0 a.1 s b.0 b.1 g) left right
      ∙ lists_judged C pos s g some m o t u rows scores others other_scores (sizes_fit_lem C F s G f word rows scores p) (level_fits_lem C F s G f word rows scores p)
      ∙ sym (ap₂ (λ (a b : Listed). valued (both_judged s.k g a.0 a.1 b.0 b.1)) left right)

  -- their first messages are those of the tags
  apart_is : apart s.k one.0 one.1 two.0 two.1 ≡ not (same f h)
  apart_is =
      ap₂ (λ (a b : Bool). not a && (not b && not (same (row_at s.k one.0 0) (row_at s.k two.0 0))))
      (some_row C F s G f word rows scores p) (some_row C F s G h other others other_scores q)
      ∙ ap₂ (λ (a b : List ℕ). not (same a b)) (first_row C F s G f word rows scores p) (first_row C F s G h other others other_scores q)

  both_ask : f ≢ h → both_answer C s one.0 one.1 s two.0 two.1 g ≡ valued to_ask
  both_ask differ =
      let unlike : same f h ≡ false = split (same f h) (λ e. absurd (differ (same_means f h e))) (λ e. e) in
      both_told ∙ ap (λ (b : Bool). valued (cond b to_ask (judged g (of_judged one.1 one.1 two.1)))) (apart_is ∙ ap not unlike)

  both_open : f ≡ h → g ≤ s.level → both_answer C s one.0 one.1 s two.0 two.1 g ≡ valued to_open
  both_open alike low =
      let together : apart s.k one.0 one.1 two.0 two.1 ≡ false = apart_is ∙ ap (λ (x : List ℕ). not (same f x)) (sym alike) ∙ ap not (same_self f) in
      both_told ∙ ap (λ (b : Bool). valued (cond b to_ask (judged g (of_judged one.1 one.1 two.1)))) together
      ∙ ap (λ (b : Bool). valued (judged g (cond b two.1 one.1))) (some_row C F s G f word rows scores p)
      ∙ ap valued (judged_open C F s G f word rows scores p g some low)

  -- both have rows, so the first is judged: its first row is the message
  both_hands_back : f ≡ h → g ≤ s.level → (r o : Bor (List ℕ)) → r.now ≡ one.0 → o.now ≡ two.0
      → both_opened C s r one.1 s o two.1 g ≡ (r.ref_ptr, f)
  both_hands_back alike low r o is are =
      let open_is : is_open (both_answer C s r.now one.1 s o.now two.1 g) ≡ true =
      ap₂ (λ (x y : List ℕ). is_open (both_answer C s x one.1 s y two.1 g)) is are ∙ ap is_open (both_open alike low) in
      ap (λ (t : Bool). cond t (front s.k (of_judged one.1 r o)) (front 0 r)) open_is
      ∙ ap (λ (t : Bool). front s.k (cond t o r)) (some_row C F s G f word rows scores p)
      ∙ ap (λ (x : List ℕ). (r.ref_ptr, x)) (ap (take s.k) is ∙ front_row C F s G f word rows scores p)

pub at_the_counter : (C : Code) → FieldOf C → (s : Settings) → AtTheCounter C s
at_the_counter C F s = record {
  opens = λ G g f word rows scores p some low. opens C F s G f word rows scores p g some low;
  hands_back = λ G g f word rows scores p some low. hands_back C F s G f word rows scores p g some low;
  both_open = λ G g f word rows scores other others other_scores p q some low. both_open C F s G f f word rows scores other others other_scores p q g some refl low;
  both_hands_back = λ G g f word rows scores other others other_scores p q some low r o is are.
      both_hands_back C F s G f f word rows scores other others other_scores p q g some refl low r o is are;
  both_ask = λ G g f h word rows scores other others other_scores differ p q some. both_ask C F s G f h word rows scores other others other_scores p q g some differ;
}

pub counter_of_sixteen : (s : Settings) → AtTheCounter sixteen s
counter_of_sixteen = at_the_counter sixteen sixteen_field
