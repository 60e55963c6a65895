-- A list beside itself, or beside one without rows, is judged as alone.
-- Assumes nothing.
use mathlib.Core.Bool.{Bool, true, false, not, cond, ◌&&◌}
use mathlib.Core.List.{List, [], ◌∷◌}
use mathlib.Core.Path.{◌≡◌, refl, sym, ap}
use Prim.Native.Nat.{ℕ, suc, ◌*◌, ◌-◌}
use native.Mathlib.Nat.{mul-zero, zero-add, suc-ne-zero}
use native.Mathlib.Omega.{arith}
use borrow.Author.Tests.{eq-eqb, ne_eqb}
use lib.Dec.{eqb}
use lib.ListN.{length}
use Rattle.counter.specs.Judging.{judged, lead, settings, apart, both_judged, judge_answer, both_answer}
use Rattle.counter.specs.declared.Settings.{Settings}
use Rattle.definitions.proofs.Table.{sizes_mean, size_passes}
use Rattle.definitions.specs.Answers.{refused, valued}
use Rattle.definitions.specs.Field.{Code}
use Rattle.definitions.specs.Listing.{row_at}
use Rattle.definitions.specs.Refusals.{size, sizes, level, symbols, first_above}
use Rattle.rows.proofs.Messages.{same_self}
use Rattle.definitions.specs.Tools.{every}
use Rattle.rows.specs.Rows.{list_line}

-- a line that is tried twice is tried once
twice : {A : Type 0} (a b c : Bool) (x y p q u v : A) → u ≡ v → cond a x (cond b y (cond b y (cond c p (cond c q u)))) ≡ cond a x (cond b y (cond c p v))
twice true b c x y p q u v e = refl
twice false true c x y p q u v e = refl
twice false false true x y p q u v e = refl
twice false false false x y p q u v e = e

-- a list without rows passes its lines
no_rows : (k : ℕ) → (list_line k [] []).given ≡ false
unfolding every
no_rows k = rw (eq-eqb 0 (k * 0) (sym (mul-zero k)))

no_symbols : (C : Code) → (symbols C []).given ≡ false
unfolding first_above
no_symbols C = refl

not_both : (a b : Bool) → b ≡ false → (a && b) ≡ false
not_both true b e = e
not_both false b e = refl

module _ (k g : ℕ) where
  self_alone : (rows scores : List ℕ) → both_judged k g rows scores rows scores ≡ judged g scores
  self_alone rows scores =
      let same_first = same_self (row_at k rows 0) in
      let together : apart k rows scores rows scores ≡ false =
      not_both (not (eqb (length scores) 0)) _ (not_both (not (eqb (length scores) 0)) _ (ap not same_first)) in
      rw together (ap (judged g) (either (eqb (length scores) 0) scores))
    where
      either : (b : Bool) (l : List ℕ) → cond b l l ≡ l
      either true l = refl
      either false l = refl

  first_alone : (rows scores : List ℕ) → both_judged k g rows scores [] [] ≡ judged g scores
  first_alone rows [] = refl
  first_alone rows (s ∷ scores) = rw (ne_eqb (suc (length scores)) 0 (suc-ne-zero (length scores)))

  second_alone : (others other_scores : List ℕ) → both_judged k g [] [] others other_scores ≡ judged g other_scores
  second_alone others other_scores = refl

-- settings in range, for both lists
module _ (C : Code) (s : Settings) (fits : (sizes C s.n s.k).given ≡ false) (levels : (level s.level).given ≡ false) where
  k_fits : (size C s.k).given ≡ false
  k_fits =
      let h = sizes_mean C s.n s.k fits in
      size_passes C s.k h.0 (omega arith)

  pub equal_settings : (settings s s).given ≡ false
  equal_settings = rw (eq-eqb s.n s.n refl, eq-eqb s.k s.k refl, eq-eqb s.level s.level refl)

  module _ (g : ℕ) where
    pub beside_itself : (rows scores : List ℕ) → both_answer C s rows scores s rows scores g ≡ judge_answer C s.k rows scores g
    beside_itself rows scores =
        rw (fits, levels, k_fits, equal_settings)
        (twice (lead g).given (list_line s.k rows scores).given (symbols C rows).given (refused 2 0) (refused 3 0) _ _ _ _
        (ap valued (self_alone s.k g rows scores)))

    pub beside_none : (rows scores : List ℕ) → both_answer C s rows scores s [] [] g ≡ judge_answer C s.k rows scores g
    beside_none rows scores = rw (fits, levels, k_fits, equal_settings, no_rows s.k, no_symbols C, first_alone s.k g rows scores)

    pub none_beside : (others other_scores : List ℕ) → both_answer C s [] [] s others other_scores g ≡ judge_answer C s.k others other_scores g
    none_beside others other_scores =
        rw (fits, levels, k_fits, equal_settings, no_rows s.k, no_symbols C, zero-add (first_above (C.symbols - 1) others), second_alone s.k g others other_scores)
