-- What the library's lists write is such a list: k symbols a score, in list order, no message twice.
-- Assumes nothing.
use mathlib.Core.Bool.{true, false, not}
use mathlib.Core.List.{List, [], map, flatten, append-nil}
use mathlib.Core.Logic.{inl, inr}
use mathlib.Core.Path.{◌≡◌, sym, ◌∙◌, ap, ap₂}
use Prim.Native.Nat.{ℕ, ◌+◌, ◌*◌, ◌-◌, ◌≤◌, ◌<◌}
use native.Mathlib.Omega.{arith}
use borrow.Author.Tests.{eqb-true, eqb-false, eq-eqb}
use lib.Dec.{eqb}
use lib.ListN.{length, take, drop, get_or, length-map}
use lib.Seq.{take_at}
use Rattle.algebra.proofs.Every.{All, all_members, length_flatten, row_of_flatten, symbols_flatten}
use Rattle.definitions.proofs.Above.{Precedes, above_in_order}
use Rattle.definitions.proofs.Messages.{Before}
use Rattle.definitions.proofs.Ordered.{ordered_at}
use Rattle.definitions.proofs.Table.{symbols_pass}
use Rattle.definitions.proofs.Tools.{split, map_at}
use Rattle.definitions.specs.Answers.{rows_onto, scores_onto}
use Rattle.definitions.specs.Code.{Symbols}
use Rattle.definitions.specs.Field.{Code}
use Rattle.definitions.specs.Listing.{above, row_at}
use Rattle.definitions.specs.Refusals.{symbols}
use Rattle.definitions.specs.Weights.{score}
use Rattle.definitions.proofs.Every.{every_of}
use Rattle.rows.proofs.InOrder.{Stands, stands_tested}
use Rattle.rows.proofs.Messages.{same_means}
use Rattle.rows.specs.Rows.{same, row_before, is_new, is_list, list_line}

-- a row whose score is as high, and whose message comes before where it is equal, stands before the other
stands : (a b : ℕ) (f g : List ℕ) → b ≤ a → (a ≡ b → Before f g) → Stands a b f g
stands a b f g h p =
    split (eqb a b) (λ e. (let same = eqb-true a b e in inr (same, p same))) (λ n. inl (let other = eqb-false a b n in omega arith))

module _ (C : Code) (pos : 0 < C.symbols) (n k : ℕ) (m : List ℕ) (t : ℕ) where
  -- the rows and scores as they are written
  abbrev rows_above : List ℕ
  rows_above = flatten (above C n k m t)

  abbrev scores_above : List ℕ
  scores_above = map (score C n m) (above C n k m t)

  many : length scores_above ≡ length (above C n k m t)
  many = length-map (above C n k m t) (score C n m)

  sized : All (λ f. length f ≡ k) (above C n k m t)
  sized = all_members (λ f. length f ≡ k) (above C n k m t) (above_in_order C pos n k m t).sized

  row_is : (i : ℕ) → i < length (above C n k m t) → row_at k rows_above i ≡ get_or (above C n k m t) i []
  row_is i h = ap (λ (l : List ℕ). row_at k l i) (sym (append-nil rows_above)) ∙ row_of_flatten k (above C n k m t) [] sized i h

  precedes : (i j : ℕ) → i < j → j < length (above C n k m t) → row_before k rows_above scores_above i j ≡ true
  precedes i j h l =
      let p = ordered_at (Precedes (score C n m)) (above C n k m t) (above_in_order C pos n k m t).ordered [] i j h l in
      rw (row_is i (omega arith), row_is j l, map_at (score C n m) (above C n k m t) i [] 0 (omega arith), map_at (score C n m) (above C n k m t) j [] 0 l)
      (stands_tested (score C n m (get_or (above C n k m t) i [])) (score C n m (get_or (above C n k m t) j [])) (get_or (above C n k m t) i []) (get_or (above C n k m t) j [])
      (stands (score C n m (get_or (above C n k m t) i [])) (score C n m (get_or (above C n k m t) j [])) (get_or (above C n k m t) i []) (get_or (above C n k m t) j []) p.0 p.1))

  new : (j : ℕ) → j < length (above C n k m t) → is_new k rows_above j ≡ true
  new j l = every_of (λ (i : ℕ). not (same (row_at k rows_above i) (row_at k rows_above j))) j (λ i h.
      split (same (row_at k rows_above i) (row_at k rows_above j))
      (λ y.
      let e = (above_in_order C pos n k m t).once i j (omega arith) l (sym (row_is i (omega arith)) ∙ same_means (row_at k rows_above i) (row_at k rows_above j) y ∙ row_is j l) in
      let z : ⊥ = omega arith in absurd z)
      (λ f. ap not f))

  is_list_lem : is_list k rows_above scores_above ≡ true
  is_list_lem =
      let size = many in
      rw (
        eq-eqb (length rows_above) (k * length scores_above) (length_flatten k (above C n k m t) sized ∙ ap (λ (c : ℕ). k * c) (sym many)),
        every_of (λ (i : ℕ). row_before k rows_above scores_above i (i + 1)) (length scores_above - 1) (λ i h. precedes i (i + 1) (omega arith) (omega arith)),
        every_of (is_new k rows_above) (length scores_above) (λ j h. new j (omega arith)),
      )

  all_symbols : (symbols C rows_above).given ≡ false
  all_symbols =
      symbols_pass C rows_above
      (symbols_flatten C pos (above C n k m t) (all_members (λ f. Symbols C f) (above C n k m t) (above_in_order C pos n k m t).symbols))

  -- the rows counted and their scores, as the promises of the lists leave them in the memory that was lent
  module _ (rows_lent scores_lent : List ℕ) where
    abbrev pub rows_written : List ℕ
    rows_written = take (k * length (above C n k m t)) (rows_onto k (above C n k m t) rows_lent)

    abbrev pub scores_written : List ℕ
    scores_written = take (length (above C n k m t)) (scores_onto C n m (above C n k m t) scores_lent)

    rows_are : rows_written ≡ rows_above
    rows_are =
        take_at rows_above (drop (k * length (above C n k m t)) rows_lent) (k * length (above C n k m t)) (length_flatten k (above C n k m t) sized)

    scores_are : scores_written ≡ scores_above
    scores_are = take_at scores_above (drop (length (above C n k m t)) scores_lent) (length (above C n k m t)) many

    -- neither line is given
    pub above_listed : (list_line k rows_written scores_written).given ≡ false
    above_listed = ap₂ (λ (r s : List ℕ). (list_line k r s).given) rows_are scores_are ∙ ap not is_list_lem

    pub above_symbols : (symbols C rows_written).given ≡ false
    above_symbols = ap (λ (r : List ℕ). (symbols C r).given) rows_are ∙ all_symbols

    -- a score for each row
    pub many_written : length scores_written ≡ length (above C n k m t)
    many_written = ap length scores_are ∙ many
