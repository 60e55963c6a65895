-- The fronts of two lists are equal where each of their entries is the same.
-- Assumes nothing.
use mathlib.Core.Bool.{Bool, true, true≢false}
use mathlib.Core.List.{List}
use mathlib.Core.Path.{◌≡◌, sym, ◌∙◌, ap}
use Prim.Native.Nat.{ℕ, ◌≤◌, ◌<◌}
use native.Mathlib.Omega.{arith}
use borrow.Author.Tests.{eq-eqb, eqb-true}
use lib.Dec.{eqb}
use lib.ListN.{length, take, get_or}
use Rattle.std.proofs.Common.{ext_get_or}
use lib.Pointwise.{pointwise, bytes_decides}
use lib.Seq.{length-take-le, get_or-take}
use Rattle.definitions.proofs.Every.{every_of, every_at}
use Rattle.definitions.proofs.Tools.{split}
use Rattle.definitions.specs.Tools.{every}
use Rattle.memory.specs.Same.{same_up_to}

module _ (n : ℕ) (l o : List ℕ) (hl : n ≤ length l) (ho : n ≤ length o) where
  abbrev same : ℕ → Bool
  same j = eqb (get_or l j 0) (get_or o j 0)

  same_entry : take n l ≡ take n o → (j : ℕ) → j < n → same j ≡ true
  same_entry e j h =
      eq-eqb (get_or l j 0) (get_or o j 0) (sym (get_or-take n l j 0 h) ∙ ap (λ (x : List ℕ). get_or x j 0) e ∙ get_or-take n o j 0 h)

  same_entries : every n same ≡ true → take n l ≡ take n o
  same_entries t =
      let size = length-take-le n l hl in
      ext_get_or 0 (take n l) (take n o) (size ∙ sym (length-take-le n o ho))
      (λ j h.
      let w : j < n = omega arith in
      get_or-take n l j 0 w ∙ eqb-true (get_or l j 0) (get_or o j 0) (every_at same n j t w) ∙ sym (get_or-take n o j 0 w))

  pub same_front : pointwise eqb (take n l) (take n o) ≡ same_up_to n l o
  same_front =
      let decides = bytes_decides (take n l) (take n o) in
      split (pointwise eqb (take n l) (take n o)) (λ t. t ∙ sym (every_of same n (same_entry (decides.0 t))))
      (λ f. split (every n same) (λ t. absurd (true≢false (sym (decides.1 (same_entries t)) ∙ f))) (λ e. f ∙ sym e))
