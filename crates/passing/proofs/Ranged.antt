-- What `all` answers of a range that begins with 0 is whether every number below its end passes.
-- Assumes nothing.
use mathlib.Core.Bool.{Bool, true, false, ◌&&◌, true≢false}
use mathlib.Core.Path.{◌≡◌, refl, sym, ◌∙◌, ap, ap₂}
use Prim.Native.Nat.{ℕ, zero, suc, ◌+◌, ◌≤◌, ◌<◌}
use native.Mathlib.Decide.{dec_lt}
use native.Mathlib.Omega.{arith}
use Rattle.std.specs.declared.ops.Range.{Range}
use Rattle.std.proofs.iter.Yields.{nat_range_steps}
use Rattle.std.proofs.lemmas.Iterator.{YieldsList-from_range}
use Rattle.std.proofs.lemmas.Iterator.Search.{all_from_yields_List}
use Rattle.std.specs.Fn.{Called}
use Rattle.std.specs.Iterator.{YieldsThen}
use Rattle.std.specs.List.{FoldsTo, list_all, range_with_len}
use Rattle.std.specs.Option.{MatchOption}
use Rattle.std.specs.Prelude.{Option}
use denote.Param.Members.{Mut}
use mathlib.Core.List.{List}
use Rattle.definitions.proofs.Every.{every_at, every_of}
use Rattle.definitions.proofs.Tools.{both, split}
use Rattle.definitions.specs.Tools.{every}

module _ (test : ℕ → Bool) where
  -- if each of n numbers from a on passes, all do
  all_of : (a n : ℕ) → ((i : ℕ) → a ≤ i → i < a + n → test i ≡ true) → list_all test (range_with_len a n) ≡ true
  all_of a zero h = refl
  all_of a (suc n) h = ap₂ ◌&&◌ (h a (omega arith) (omega arith)) (all_of (a + 1) n (λ i low high. h i (omega arith) (omega arith)))

  -- if all do, each does
  all_at : (a n i : ℕ) → list_all test (range_with_len a n) ≡ true → a ≤ i → i < a + n → test i ≡ true
  all_at a zero i e low high = let none : ⊥ = omega arith in absurd none
  all_at a (suc n) i e low high =
      let b = both (test a) (list_all test (range_with_len (a + 1) n)) e in
      elim (dec_lt a i) [
        | yes l ↦ all_at (a + 1) n i b.1 (omega arith) (omega arith)
        | no g ↦ (let same : a ≡ i = omega arith in ap test (sym same) ∙ b.0)
      ]

  -- so `list_all` of the numbers from 0 on is `every`
  all_every : (n : ℕ) → list_all test (range_with_len 0 n) ≡ every n test
  all_every n =
      split (every n test) (λ t. all_of 0 n (λ i low high. every_at test n i t (omega arith)) ∙ sym t)
      (λ f. split (list_all test (range_with_len 0 n)) (λ t. absurd (true≢false (sym (every_of test n (λ i h. all_at 0 n i t (omega arith) (omega arith))) ∙ f))) (λ g. g ∙ sym f))

  -- what `all` answers of a closure f that is the test
  pub all_ranged : {F : Type 0} {g : Mut F (ℕ × Unit {0}) Bool} {s u : Range ℕ} {f : F} {r : Bool} (n : ℕ) → s ≡ record { start = 0; end = n }
      → (xs : List ℕ) × (o : Option ℕ) × (j : F) × YieldsThen nat_range_steps s xs o u × FoldsTo (λ p x q. Called g p (x, tt) true q) f xs j × MatchOption o (r ≡ true) (λ x. (r ≡ false) × ((h : F) × Called g j (x, tt) false h))
      → ((x : ℕ) (b : Bool) (q : F) → Called g f (x, tt) b q → (q ≡ f) × (b ≡ test x)) → r ≡ every n test
  all_ranged {u = u} {f = f} {r = r} n from ran is = all_from_yields_List test u f r ran (YieldsList-from_range 0 n n from (omega arith)) is ∙ all_every n
