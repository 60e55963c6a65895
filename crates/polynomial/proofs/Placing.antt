-- Where the members of a list stand, and where they stand once they are put into another.
-- Assumes nothing.
use mathlib.Core.List.Memᴰ
use mathlib.Core.List.{List, [], ◌∷◌, ◌++◌, Memᴰ}
use mathlib.Core.Logic.{⊎_elim}
use mathlib.Core.Path.{◌≡◌, sym, ◌∙◌, ap, subst}
use Prim.Native.Nat.{ℕ, suc, ◌+◌, ◌-◌, ◌≤◌, ◌<◌}
use native.Mathlib.Decide.{dec_lt}
use native.Mathlib.Omega.{arith}
use lib.ListN.{length, get_or, drop, get_or-append}
use lib.Seq.{sets, sets-eq, get_or-append-add, get_or-drop}
use Rattle.definitions.proofs.Ordered.{member_at}

-- a member has a place
pub place_of : {A : Type 0} (l : List A) (x d : A) → Memᴰ x l → (r : ℕ) × (r < length l) × (get_or l r d ≡ x)
place_of [] x d m = absurd (Memᴰ.not-nil m)
place_of (y ∷ l) x d m =
    ⊎_elim (λ e. (0, omega arith, sym e)) (λ t. let p = place_of l x d t in (suc p.0, (let h = p.1 in omega arith), p.2)) (Memᴰ.cases_cons m)

module _ {A : Type 0} (o l : List A) (d : A) (room : length l ≤ length o) where
  -- what is put from the first place on stands there
  pub placed_at : (r : ℕ) → r < length l → get_or (sets o 0 l) r d ≡ get_or l r d
  placed_at r h = ap (λ (x : List A). get_or x r d) (sets-eq l o 0 (omega arith)) ∙ get_or-append l (drop (0 + length l) o) d r h

  -- behind it nothing changes
  pub placed_after : (r : ℕ) → length l ≤ r → get_or (sets o 0 l) r d ≡ get_or o r d
  placed_after r h =
      let e : r ≡ length l + (r - length l) = omega arith in
      let f : 0 + length l + (r - length l) ≡ r = omega arith in
      ap (λ (x : List A). get_or x r d) (sets-eq l o 0 (omega arith)) ∙ ap (λ (k : ℕ). get_or (l ++ drop (0 + length l) o) k d) e
      ∙ get_or-append-add l (drop (0 + length l) o) (r - length l) d ∙ get_or-drop (0 + length l) o (r - length l) d ∙ ap (λ (k : ℕ). get_or o k d) f

  -- what holds of every member and behind them holds everywhere
  pub placed_each : (P : A → Type 0) → ((x : A) → Memᴰ x l → P x) → (r : ℕ) → P (get_or o r d) → P (get_or (sets o 0 l) r d)
  placed_each P each r p =
      elim (dec_lt r (length l)) [
        | yes h ↦ subst P (sym (placed_at r h)) (each (get_or l r d) (member_at l r d h))
        | no h ↦ subst P (sym (placed_after r (omega arith))) p
      ]
