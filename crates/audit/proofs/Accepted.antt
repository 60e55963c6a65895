-- When a sum is accepted: every line of its table is passed.
-- Assumes nothing.
use mathlib.Core.Bool.{true, false}
use mathlib.Core.List.{List, [], ◌∷◌}
use mathlib.Core.Path.{◌≡◌, sym, ap}
use Prim.Native.Nat.{ℕ, ◌+◌, ◌≤◌}
use native.Mathlib.Omega.{arith}
use borrow.Author.Tests.{le-ltb, eq-eqb}
use lib.ListN.{get_or}
use Rattle.audit.specs.Words.{Accepted}
use Rattle.definitions.proofs.Editing.{sum_passed, none_found}
use Rattle.definitions.proofs.Held.{rightly_means}
use Rattle.definitions.proofs.Table.{Accepts, next, end, accepts, size_passes}
use Rattle.definitions.specs.Answers.{Answer, refused, costed}
use Rattle.definitions.specs.Editing.{same_size, stored, lowest_above, in_or_out, add_table}
use Rattle.definitions.specs.Field.{Code}
use Rattle.definitions.specs.Held.{Held, places, held_of, with_added, rightly}
use Rattle.definitions.specs.Limits.{greatest_level}

module _ (C : Code) (h o : Held) (some : 2 ≤ h.n) (few : h.n ≤ C.positions) (same : h.n ≡ o.n) (rh : rightly C h ≡ true) (ro : rightly C o ≡ true)
    (low : (j : ℕ) → get_or h.entries j 0 + get_or o.entries j 0 ≤ greatest_level) where
  same_passed : (same_size h.n o.n).given ≡ false
  same_passed = rw (eq-eqb h.n o.n same)

  stored_passed : (x : Held) → rightly C x ≡ true → (stored C x).given ≡ false
  stored_passed x r = rw r

  -- what goes in and what comes out
  abbrev three : List (List ℕ)
  three = h.entries ∷ o.entries ∷ with_added h.entries o.entries ∷ []

  entries_passed : (in_or_out C three).given ≡ false
  entries_passed =
      let full = (rightly_means C h rh).full in
      let past = none_found C h.entries full o.entries (places C) (λ j l. sum_passed C h.entries full o.entries j (omega arith) (low j)) (omega arith) in
      le-ltb (lowest_above C three) (places C) (omega arith)

  lines : Accepts (add_table C h o)
  lines = next (size_passes C h.n some few) (next same_passed (next (stored_passed h rh) (next (stored_passed o ro) (next entries_passed end))))

  pub accepted : Accepted C h o
  accepted = ap (λ (a : Answer). a.number) (sym (accepts refused (costed (held_of C h.n (with_added h.entries o.entries)).cost 0) lines))
