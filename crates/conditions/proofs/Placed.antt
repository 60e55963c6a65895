-- Rows that are put one after the other into a matrix.
-- Assumes nothing.
use mathlib.Core.List.{List, [], ◌∷◌, ◌++◌, map, flat_map}
use mathlib.Core.Path.{◌≡◌, refl, sym, ◌∙◌, ap, ap₂, subst}
use Prim.Native.Nat.{ℕ, suc, ◌+◌, ◌≤◌, ◌<◌}
use native.Mathlib.Nat.{add-zero, add-suc, suc-add}
use native.Mathlib.Numerals.{add-one}
use native.Mathlib.Omega.{arith}
use lib.ListN.{length, get_or, set}
use lib.Seq.{sets, length-sets, get_or-set_other}
use Rattle.definitions.proofs.Joined.{join_nil, join_below, joined_count, joined_room}
use Rattle.definitions.proofs.Tools.{below_zero, length_map_below, map_below}
use Rattle.definitions.specs.Tools.{below}
use Rattle.blocks.specs.Row.{ZeroFrom}
use Rattle.conditions.specs.MaskedRows.{Clear}

-- two runs of rows, one after the other
sets_append : {A : Type 0} (o : List A) (at : ℕ) (l k : List A) → sets o at (l ++ k) ≡ sets (sets o at l) (at + length l) k
sets_append o at [] k = ap (λ (n : ℕ). sets o n k) (sym (add-zero at))
sets_append o at (a ∷ l) k =
    sets_append (set o at a) (suc at) l k ∙ ap (λ (n : ℕ). sets (sets (set o at a) (suc at) l) n k) (suc-add at (length l) ∙ sym (add-suc at (length l)))

-- behind them nothing changes
sets_behind : {A : Type 0} (o : List A) (at : ℕ) (l : List A) (d : A) (r : ℕ) → at + length l ≤ r → get_or (sets o at l) r d ≡ get_or o r d
sets_behind o at [] d r h = refl
sets_behind o at (a ∷ l) d r h = sets_behind (set o at a) (suc at) l d r (omega arith) ∙ get_or-set_other o at r a d (λ e. omega arith)

-- rows that are clear behind stay so
pub clear_behind : (o now l : List (List ℕ)) (at n next : ℕ) → Clear at n o → now ≡ sets o at l → next ≡ at + length l → Clear next n now
clear_behind o now l at n next clear e en r h room =
    subst (λ (x : List ℕ). ZeroFrom n x) (sym (ap (λ (x : List (List ℕ)). get_or x r []) e ∙ sets_behind o at l [] r (omega arith)))
    (clear r (omega arith) (let s = ap length e ∙ length-sets o at l in omega arith))

module _ {A : Type 0} (f : ℕ → A) (o : List A) (at : ℕ) where
  -- none is put yet
  pub rows_none : o ≡ sets o at (map f (below 0))
  rows_none = ap (λ (l : List ℕ). sets o at (map f l)) (sym below_zero)

  -- one row more
  pub rows_more : (now : List A) (t : ℕ) (row : A) → now ≡ sets o at (map f (below t)) → row ≡ f t → set now (at + t) row ≡ sets o at (map f (below (t + 1)))
  rows_more now t row e er =
      ap₂ (λ (l : List A) (r : A). set l (at + t) r) e er
      ∙ ap (λ (n : ℕ). set (sets o at (map f (below t))) (at + n) (f t)) (sym (length_map_below f t))
      ∙ sym (sets_append o at (map f (below t)) (f t ∷ []))
      ∙ ap (sets o at) (sym (map_below f t)) ∙ ap (λ (n : ℕ). sets o at (map f (below n))) (sym (add-one t))

-- lists of rows are put one after the other, from `at` on, in place of the rows of o: the first s lists of f are, and next is the place after them
pub record Joining (f : ℕ → List (List ℕ)) (o : List (List ℕ)) (at s next : ℕ) (now : List (List ℕ)) : Type 0 where
  pub place : next ≡ at + length (flat_map f (below s))
  pub put : now ≡ sets o at (flat_map f (below s))

module _ {f : ℕ → List (List ℕ)} {o : List (List ℕ)} {at : ℕ} where
  -- none is put yet
  pub joining_none : Joining f o at 0 at o
  joining_none =
      let e = ap (λ (l : List ℕ). flat_map f l) below_zero ∙ join_nil f in
      let count : length (flat_map f (below 0)) ≡ 0 = ap length e in
      record { place = omega arith; put = ap (sets o at) (sym e) }

  module _ {s next : ℕ} {now : List (List ℕ)} (j : Joining f o at s next now) where
    -- one list more
    pub joining_more : {after : ℕ} {new : List (List ℕ)} → after ≡ next + length (f s) → new ≡ sets now next (f s) → Joining f o at (s + 1) after new
    joining_more e put = record {
      place = let c = joined_count f s in let p = j.place in omega arith;
      put = put ∙ ap₂ (λ (l : List (List ℕ)) (n : ℕ). sets l n (f s)) j.put j.place ∙ sym (sets_append o at (flat_map f (below s)) (f s)) ∙ ap (sets o at) (sym (join_below f s))
          ∙ ap (λ (n : ℕ). sets o at (flat_map f (below n))) (sym (add-one s));
    }

    -- there is room for it, where there is for more lists
    pub joining_room : (n : ℕ) → s < n → at + length (flat_map f (below n)) ≤ length o → next + length (f s) ≤ length now
    joining_room n h room =
        let fits = joined_room f n s h in
        let size = ap length j.put ∙ length-sets o at (flat_map f (below s)) in
        let p = j.place in omega arith

    -- the rows behind them stay clear
    pub joining_clear : (n : ℕ) → Clear at n o → Clear next n now
    joining_clear n clear = clear_behind o now (flat_map f (below s)) at n next clear j.put j.place
