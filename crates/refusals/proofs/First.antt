-- The first place of a number above the greatest is the first at which the library's search stops.
-- Assumes nothing.
use Rattle.std.proofs.Common.{◌≡◌, ℕ, ◌+◌, ltb, cond, suc, List, [], ◌∷◌, length, Option, Some, None, refl, sym, ap, ◌∙◌, subst, arith}
use borrow.Author.Tests.{ltb-true, ltb-false}
use Rattle.std.specs.List.{position_or_len}
use Rattle.definitions.proofs.Tools.{split}
use Rattle.definitions.specs.Refusals.{first_above}
use Rattle.refusals.specs.Found.{Found}

one_more : (n : ℕ) → 1 + n ≡ suc n
one_more n = omega arith

first_stop : (greatest : ℕ) (l : List ℕ) → position_or_len (ltb greatest) l ≡ first_above greatest l
unfolding first_above
first_stop greatest [] = refl
first_stop greatest (x ∷ l) = split (ltb greatest x) (λ e. rw e) (λ e. rw e (ap (λ (n : ℕ). 1 + n) (first_stop greatest l) ∙ one_more (first_above greatest l)))

found_where : (first many : ℕ) → Found first many (cond (ltb first many) (Some first) None)
found_where first many =
    split (ltb first many) (λ e. rw e (refl, ltb-true first many e)) (λ e. rw e (ltb-false first many e))

-- so what the search answers is that place, where there is one
pub found_above : (greatest : ℕ) (l : List ℕ) (r : Option ℕ)
    → r ≡ cond (ltb (position_or_len (ltb greatest) l) (length l)) (Some (position_or_len (ltb greatest) l)) None → Found (first_above greatest l) (length l) r
found_above greatest l r e =
    subst (Found (first_above greatest l) (length l))
    (sym (e ∙ ap (λ (n : ℕ). cond (ltb n (length l)) (Some n) None) (first_stop greatest l)))
    (found_where (first_above greatest l) (length l))
