-- What holds of every entry of a list.
-- Assumes nothing.
use mathlib.Core.List.Memᴰ
use mathlib.Core.List.{List, [], ◌∷◌, ◌++◌, map, flat_map, flatten, append_assoc, Memᴰ}
use mathlib.Core.Logic.{⊎_elim}
use mathlib.Core.Path.{◌≡◌, refl, sym, ◌∙◌, ap, subst}
use Prim.Native.Nat.{ℕ, zero, suc, ◌*◌, ◌<◌}
use native.Mathlib.Nat.{mul-zero, mul-suc, add_comm, le_of_suc-le-suc, not-suc-le-zero}
use native.Mathlib.Omega.{arith}
use lib.ListN.{length, take, drop, get_or, length-append}
use lib.Seq.{take_at, drop_at, drop-drop}
use Rattle.definitions.proofs.Symbols.{append_symbols}
use Rattle.definitions.specs.Code.{Symbols}
use Rattle.definitions.specs.Field.{Code}
use Rattle.definitions.specs.Listing.{row_at}
use Rattle.definitions.specs.Tools.{below}

module _ {B : Type 0} (P : B → Type 0) where
  -- P holds of every entry
  abbrev pub All : List B → Type 0
  All [] = Unit
  All (b ∷ l) = P b × All l

  -- of two lists, one after the other
  pub all_append : (k l : List B) → All k → All l → All (k ++ l)
  all_append [] l p q = q
  all_append (b ∷ k) l p q = (p.0, all_append k l p.1 q)

  -- what holds of every member holds of all
  pub all_members : (l : List B) → ((x : B) → Memᴰ x l → P x) → All l
  all_members [] h = tt
  all_members (b ∷ l) h = (h b (Memᴰ.head refl), all_members l (λ y m. h y (Memᴰ.tail m)))

  -- and the other way round
  pub all_member : (l : List B) → All l → (x : B) → Memᴰ x l → P x
  all_member [] p x m = absurd (Memᴰ.not-nil m)
  all_member (b ∷ l) p x m = ⊎_elim (λ e. subst P (sym e) p.0) (λ t. all_member l p.1 x t) (Memᴰ.cases_cons m)

module _ {B D : Type 0} (P : D → Type 0) where
  -- of the images of a list
  pub all_map : (g : B → D) (l : List B) → All (λ b. P (g b)) l → All P (map g l)
  all_map g [] p = tt
  all_map g (b ∷ l) p = (p.0, all_map g l p.1)

  -- of the lists that each entry gives
  pub all_flat_map : (g : B → List D) (l : List B) → All (λ b. All P (g b)) l → All P (flat_map g l)
  unfolding flat_map
  all_flat_map g [] p = tt
  all_flat_map g (b ∷ l) p = all_append P (g b) (flat_map g l) p.0 (all_flat_map g l p.1)

-- what holds of each number below n holds of all
pub all_below : (P : ℕ → Type 0) (n : ℕ) → ((j : ℕ) → j < n → P j) → All P (below n)
unfolding below
all_below P zero h = tt
all_below P (suc n) h = all_append P (below n) (n ∷ []) (all_below P n (λ j k. h j (omega arith))) (h n (omega arith), tt)

-- lists of k entries each, joined, have k times as many entries
pub length_flatten : {B : Type 0} (k : ℕ) (rows : List (List B)) → All (λ f. length f ≡ k) rows → length (flatten rows) ≡ k * length rows
unfolding flatten
length_flatten k [] s = sym (mul-zero k)
length_flatten k (f ∷ rows) s =
    let e = s.0 in
    let r = length_flatten k rows s.1 in
    let g = mul-suc k (length rows) in
    length-append f (flatten rows) ∙ omega arith

-- and row j of them is the list j
pub row_of_flatten : (k : ℕ) (rows : List (List ℕ)) (rest : List ℕ) → All (λ f. length f ≡ k) rows → (j : ℕ) → j < length rows → row_at k (flatten rows ++ rest) j ≡ get_or rows j []
unfolding flatten
row_of_flatten k [] rest s j h = absurd (not-suc-le-zero h)
row_of_flatten k (f ∷ rows) rest s zero h =
    ap (λ (n : ℕ). take k (drop n ((f ++ flatten rows) ++ rest))) (mul-zero k)
    ∙ ap (take k) (append_assoc f (flatten rows) rest) ∙ take_at f (flatten rows ++ rest) k s.0
row_of_flatten k (f ∷ rows) rest s (suc j) h =
    ap (λ (n : ℕ). take k (drop n ((f ++ flatten rows) ++ rest))) (mul-suc k j ∙ add_comm (k * j) k)
    ∙ ap (take k)
    (sym (drop-drop (k * j) k ((f ++ flatten rows) ++ rest))
    ∙ ap (drop (k * j)) (ap (drop k) (append_assoc f (flatten rows) rest) ∙ drop_at f (flatten rows ++ rest) k s.0))
    ∙ row_of_flatten k rows rest s.1 j (le_of_suc-le-suc h)

-- lists of symbols, joined, are symbols
pub symbols_flatten : (C : Code) → 0 < C.symbols → (rows : List (List ℕ)) → All (λ f. Symbols C f) rows → Symbols C (flatten rows)
unfolding flatten
symbols_flatten C pos [] h j = pos
symbols_flatten C pos (f ∷ rows) h j = append_symbols C f (flatten rows) h.0 (symbols_flatten C pos rows h.1) j
