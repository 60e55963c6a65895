-- What a chain makes of the entries of a list, over their places as the page has it: a sum, and a test of all.
-- Assumes nothing.
use mathlib.Core.Bool.{Bool, ◌&&◌}
use mathlib.Core.List.{List}
use mathlib.Core.Path.{◌≡◌, refl, sym, ◌∙◌, ap, ap₂}
use Prim.Native.Nat.{ℕ, zero, suc, ◌+◌, ◌*◌, ◌≤◌}
use native.Mathlib.Nat.{zero-add}
use native.Mathlib.Numerals.{add-one}
use native.Mathlib.Omega.{arith}
use lib.ListN.{length, take, drop, get_or, length-drop}
use lib.Seq.{take-length, get_or-drop}
use Rattle.std.proofs.lemmas.List.Folds.{list_all_more}
use Rattle.std.proofs.lemmas.List.FromFn.{length-enumerate_from, get_or-enumerate_from}
use Rattle.std.proofs.lemmas.List.Sums.{sum_by_more}
use Rattle.std.specs.List.{sum_by, list_all, enumerate_from}
use Rattle.definitions.proofs.Tools.{sum_zero, sum_suc, sum_ext}
use Rattle.definitions.specs.Field.{Code}
use Rattle.definitions.specs.Tools.{every, sum}
use Rattle.definitions.specs.Weights.{sum_of_column}

module _ (f : ℕ → ℕ) where
  -- of the first n
  sum_front : (l : List ℕ) (n : ℕ) → n ≤ length l → sum_by f (take n l) ≡ sum n (λ j. f (get_or l j 0))
  sum_front l zero h = sym (sum_zero (λ j. f (get_or l j 0)))
  sum_front l (suc n) h =
      ap (λ m. sum_by f (take m l)) (sym (add-one n)) ∙ sum_by_more f l n 0 (omega arith)
      ∙ ap (λ t. t + f (get_or l n 0)) (sum_front l n (omega arith)) ∙ sym (sum_suc n (λ j. f (get_or l j 0)))

  -- of all
  pub sum_entries : (l : List ℕ) → sum_by f l ≡ sum (length l) (λ j. f (get_or l j 0))
  sum_entries l = ap (sum_by f) (sym (take-length l)) ∙ sum_front l (length l) (omega arith)

  -- of n from a place on
  pub sum_part : (l : List ℕ) (from n : ℕ) → from + n ≤ length l → sum_by f (take n (drop from l)) ≡ sum n (λ j. f (get_or l (from + j) 0))
  sum_part l from n h =
      sum_front (drop from l) n (omega (arith, length-drop from l)) ∙ sum_ext n _ _ (λ j w. ap f (get_or-drop from l j 0))

-- the bytes of a column add up to its total
pub column_added : (C : Code) (e : List ℕ) (i q : ℕ) → q ≡ C.symbols → q * i + q ≤ length e → sum_by (λ x. x) (take q (drop (q * i) e)) ≡ sum_of_column C e i
column_added C e i q is h =
    sum_part (λ x. x) e (q * i) q h ∙ ap (λ n. sum n (λ j. get_or e (n * i + j) 0)) is

-- a test of each entry and its place
module _ (test : ℕ → ℕ → Bool) (l : List ℕ) where
  abbrev passes : ℕ × ℕ → Bool
  passes p = test p.0 p.1

  all_front : (n : ℕ) → n ≤ length l → list_all passes (take n (enumerate_from 0 l)) ≡ every n (λ i. test i (get_or l i 0))
  unfolding every
  all_front zero h = refl
  all_front (suc n) h =
      let numbered = enumerate_from 0 l in
      let here : get_or numbered n (0, 0) ≡ (0 + n, get_or l n 0) = get_or-enumerate_from 0 l n (0, 0) (omega arith) in
      ap (λ m. list_all passes (take m numbered)) (sym (add-one n)) ∙ list_all_more passes numbered n (0, 0) (omega (arith, length-enumerate_from 0 l))
      ∙ ap₂ ◌&&◌ (all_front n (omega arith)) (ap passes here ∙ ap (λ i. test i (get_or l n 0)) (zero-add n))

  pub all_entries : list_all passes (enumerate_from 0 l) ≡ every (length l) (λ i. test i (get_or l i 0))
  all_entries =
      let numbered = enumerate_from 0 l in
      let whole : take (length l) numbered ≡ numbered = ap (λ n. take n numbered) (sym (length-enumerate_from 0 l)) ∙ take-length numbered in
      ap (list_all passes) (sym whole) ∙ all_front (length l) (omega arith)
