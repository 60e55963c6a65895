-- The laws of commutative rings of characteristic 2, and the set `ring` by which `simp` proves their identities.
-- Assumes nothing.
use mathlib.Core.Logic.{◌≢◌}
use mathlib.Core.Path.{◌≡◌, sym, ◌∙◌, ap, ap₂}
use Rattle.algebra.specs.Ring.{Ring, IsField}

module _ (R : Ring) where
  open R.ops use {K, o, i, add as ◌⊕◌, mul as ◌⊗◌}

  infixl 60 ◌⊕◌
  infixl 70 ◌⊗◌
  -- sums are associative
  pub plus_assoc : (a b c : K) → a ⊕ b ⊕ c ≡ a ⊕ (b ⊕ c)
  plus_assoc a b c = R.add_assoc a b c

  -- and commutative
  pub plus_comm : (a b : K) → a ⊕ b ≡ b ⊕ a
  plus_comm a b = R.add_comm a b

  -- so that summands can be sorted
  pub plus_left : (a b c : K) → a ⊕ (b ⊕ c) ≡ b ⊕ (a ⊕ c)
  plus_left a b c = sym (plus_assoc a b c) ∙ ap (λ (x : K). x ⊕ c) (plus_comm a b) ∙ plus_assoc b a c

  -- zero is neutral
  pub plus_zero : (a : K) → a ⊕ o ≡ a
  plus_zero a = R.add_zero a

  -- on both sides
  pub zero_plus : (a : K) → o ⊕ a ≡ a
  zero_plus a = plus_comm o a ∙ plus_zero a

  -- the characteristic is 2
  pub plus_self : (a : K) → a ⊕ a ≡ o
  plus_self a = R.add_self a

  -- so that equal summands cancel
  pub plus_self_left : (a b : K) → a ⊕ (a ⊕ b) ≡ b
  plus_self_left a b = sym (plus_assoc a a b) ∙ ap (λ (x : K). x ⊕ b) (plus_self a) ∙ zero_plus b

  -- products are associative
  pub times_assoc : (a b c : K) → a ⊗ b ⊗ c ≡ a ⊗ (b ⊗ c)
  times_assoc a b c = R.mul_assoc a b c

  -- and commutative
  pub times_comm : (a b : K) → a ⊗ b ≡ b ⊗ a
  times_comm a b = R.mul_comm a b

  -- so that factors can be sorted
  pub times_left : (a b c : K) → a ⊗ (b ⊗ c) ≡ b ⊗ (a ⊗ c)
  times_left a b c = sym (times_assoc a b c) ∙ ap (λ (x : K). x ⊗ c) (times_comm a b) ∙ times_assoc b a c

  -- one is neutral
  pub times_one : (a : K) → a ⊗ i ≡ a
  times_one a = R.mul_one a

  -- on both sides
  pub one_times : (a : K) → i ⊗ a ≡ a
  one_times a = times_comm i a ∙ times_one a

  -- products distribute over sums
  pub times_plus : (a b c : K) → a ⊗ (b ⊕ c) ≡ a ⊗ b ⊕ a ⊗ c
  times_plus a b c = R.mul_add a b c

  -- on both sides
  pub plus_times : (a b c : K) → (a ⊕ b) ⊗ c ≡ a ⊗ c ⊕ b ⊗ c
  plus_times a b c = times_comm (a ⊕ b) c ∙ times_plus c a b ∙ ap₂ ◌⊕◌ (times_comm c a) (times_comm c b)

  -- a product with zero is zero
  pub times_zero : (a : K) → a ⊗ o ≡ o
  times_zero a = ap (λ (x : K). a ⊗ x) (sym (plus_self o)) ∙ times_plus a o o ∙ plus_self (a ⊗ o)

  -- on both sides
  pub zero_times : (a : K) → o ⊗ a ≡ o
  zero_times a = times_comm o a ∙ times_zero a

  -- in characteristic 2 a sum is zero only of equals
  pub equal_of_sum : (a b : K) → a ⊕ b ≡ o → a ≡ b
  equal_of_sum a b h = sym (plus_self_left b a) ∙ ap (λ (x : K). b ⊕ x) (plus_comm b a ∙ h) ∙ plus_zero b

pub ruleset ring = (
  plus_assoc,
  plus_comm,
  plus_left,
  plus_zero,
  zero_plus,
  plus_self,
  plus_self_left,
  times_assoc,
  times_comm,
  times_left,
  times_one,
  one_times,
  times_plus,
  plus_times,
  times_zero,
  zero_times,
)

module _ (R : Ring) (F : IsField R) where
  open R.ops use {K, o, i, mul as ◌⊗◌}

  infixl 70 ◌⊗◌
  -- in a field there are no divisors of zero
  pub cancel : (u a : K) → u ≢ o → u ⊗ a ≡ o → a ≡ o
  cancel u a n h =
      sym (one_times R a) ∙ ap (λ (x : K). x ⊗ a) (sym (F.mul_inverse u n) ∙ times_comm R u (F.inverse u))
      ∙ times_assoc R (F.inverse u) u a ∙ ap (λ (x : K). F.inverse u ⊗ x) h ∙ times_zero R (F.inverse u)
