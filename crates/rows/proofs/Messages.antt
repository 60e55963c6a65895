-- What the tests on messages say, and that the library's comparisons of two slices are these tests.
-- Assumes nothing.
use mathlib.Core.Bool.{Bool, true, false, cond, false≢true}
use mathlib.Core.List.{List, [], ◌∷◌}
use mathlib.Core.Logic.{◌⊎◌, inl, inr, ⊎_elim}
use mathlib.Core.Path.{◌≡◌, refl, sym, ◌∙◌, ap, ap₂, subst}
use Prim.Native.Nat.{ℕ, ◌<◌}
use native.Mathlib.Nat.{suc_inj, suc-ne-zero}
use native.Mathlib.Omega.{arith}
use borrow.Author.Tests.{ltb-true, eqb-true, lt-ltb, eq-eqb, ne_eqb}
use lib.Dec.{eqb, ltb}
use lib.ListN.{length}
use Rattle.std.proofs.Common.{Some, ◌&&◌}
use Rattle.std.proofs.lemmas.Bool.Decides.{nat_tests}
use Rattle.std.proofs.lemmas.Cmp.{same_from_slice_cmp_tested}
use Rattle.std.specs.Cmp.Lexicographic.{slice_partial_cmp}
use Rattle.std.specs.Ordering.{nat_cmp, is_lt, is_some_and}
use lib.Pointwise.{pointwise}
use Rattle.definitions.proofs.Messages.{Before}
use Rattle.definitions.proofs.Tools.{split, both}
use Rattle.rows.specs.Rows.{comes_before, same}

-- two numbers decide where they differ, and what comes after them where they are equal
module _ {L R : Type 0} (a b : ℕ) (less rest : Bool) where
  pub decided_means : (less ≡ true → L) → (rest ≡ true → R) → cond (eqb a b) rest less ≡ true → L ⊎ ((a ≡ b) × R)
  decided_means l r e = split (eqb a b) (λ s. inr (eqb-true a b s, r (rw s at e))) (λ n. inl (l (rw n at e)))

  pub decided_tested : (L → a ≡ b → ⊥) → (L → less ≡ true) → (R → rest ≡ true) → L ⊎ ((a ≡ b) × R) → cond (eqb a b) rest less ≡ true
  decided_tested n l r s = ⊎_elim (λ h. rw (ne_eqb a b (n h)) (l h)) (λ h. rw (eq-eqb a b h.0) (r h.1)) s

pub decided_through : (less : ℕ → ℕ → Type 0) → ((a b c : ℕ) → less a b → less b c → less a c) → {P Q R : Type 0} → (P → Q → R) → (a b c : ℕ)
    → less a b ⊎ ((a ≡ b) × P) → less b c ⊎ ((b ≡ c) × Q) → less a c ⊎ ((a ≡ c) × R)
decided_through less join f a b c s t =
    ⊎_elim (λ l. ⊎_elim (λ m. inl (join a b c l m)) (λ m. inl (subst (less a) m.0 l)) t)
    (λ l. ⊎_elim (λ m. inl (subst (λ (x : ℕ). less x c) (sym l.0) m)) (λ m. inr (l.0 ∙ m.0, f l.1 m.1)) t) s

-- a message that tests as before another comes before it, and the other way round
pub before_tested : (f g : List ℕ) → Before f g → comes_before f g ≡ true
unfolding comes_before
before_tested [] g b = absurd b
before_tested (x ∷ f) [] b = absurd b
before_tested (x ∷ f) (y ∷ g) b =
    decided_tested x y (ltb x y) (comes_before f g) (λ l e. let z : ⊥ = omega arith in z) (lt-ltb x y) (λ r. before_tested f g r) b

pub before_means : (f g : List ℕ) → comes_before f g ≡ true → Before f g
unfolding comes_before
before_means [] g e = absurd (false≢true e)
before_means (x ∷ f) [] e = absurd (false≢true e)
before_means (x ∷ f) (y ∷ g) e = decided_means x y (ltb x y) (comes_before f g) (ltb-true x y) (λ r. before_means f g r) e

pub before_through : (f g h : List ℕ) → Before f g → Before g h → Before f h
before_through [] g h a b = absurd a
before_through (x ∷ f) [] h a b = absurd a
before_through (x ∷ f) (y ∷ g) [] a b = absurd b
before_through (x ∷ f) (y ∷ g) (z ∷ h) a b = decided_through ◌<◌ (λ a b c l m. omega arith) (λ p q. before_through f g h p q) x y z a b

-- messages that test as the same are the same, and the other way round
pub same_self : (f : List ℕ) → same f f ≡ true
unfolding same
same_self [] = refl
same_self (x ∷ f) = rw (eq-eqb x x refl) (same_self f)

pub same_means : (f g : List ℕ) → same f g ≡ true → f ≡ g
unfolding same
same_means [] [] e = refl
same_means [] (y ∷ g) e = absurd (false≢true e)
same_means (x ∷ f) [] e = absurd (false≢true e)
same_means (x ∷ f) (y ∷ g) e = let b = both (eqb x y) (same f g) e in ap₂ ◌∷◌ (eqb-true x y b.0) (same_means f g b.1)

-- the library's `==` of two slices tells whether they are one message
pub same_tested : (f g : List ℕ) → pointwise eqb f g ≡ same f g
unfolding same
same_tested [] [] = refl
same_tested [] (y ∷ g) = refl
same_tested (x ∷ f) [] = refl
same_tested (x ∷ f) (y ∷ g) = ap (λ (b : Bool). eqb x y && b) (same_tested f g)

-- the library's `<` of two slices, of which a shorter one comes first
abbrev less : List ℕ → List ℕ → Bool
less [] [] = false
less [] (y ∷ g) = true
less (x ∷ f) [] = false
less (x ∷ f) (y ∷ g) = cond (eqb x y) (less f g) (ltb x y)

less_tested : (f g : List ℕ) (r : Bool) → r ≡ is_some_and is_lt (slice_partial_cmp (λ x y. Some (nat_cmp x y)) f g) → r ≡ less f g
less_tested = same_from_slice_cmp_tested nat_cmp is_lt less refl (λ _ _. refl) (λ _ _. refl) (λ x y xs ys o h. grind (arith, nat_tests))

less_before : (f g : List ℕ) → length f ≡ length g → less f g ≡ comes_before f g
unfolding comes_before
less_before [] [] e = refl
less_before [] (y ∷ g) e = absurd (suc-ne-zero (length g) (sym e))
less_before (x ∷ f) [] e = refl
less_before (x ∷ f) (y ∷ g) e = ap (λ (b : Bool). cond (eqb x y) b (ltb x y)) (less_before f g (suc_inj e))

-- at one length it tells whether the first message comes before the second
pub before_compared : (f g : List ℕ) (r : Bool) → length f ≡ length g → r ≡ is_some_and is_lt (slice_partial_cmp (λ x y. Some (nat_cmp x y)) f g) → r ≡ comes_before f g
before_compared f g r e h = less_tested f g r h ∙ less_before f g e
