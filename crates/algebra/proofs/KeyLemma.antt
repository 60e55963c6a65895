-- The key lemma: where Q has order m at (a, f(a)), Q(x, f(x)) has order m at a.
-- Assumes nothing.
use mathlib.Core.List.{List, [], ◌∷◌}
use mathlib.Core.Path.{◌≡◌, sym, ◌∙◌, ap, ap₂}
use Prim.Native.Nat.{ℕ, zero, suc, ◌+◌, ◌<◌}
use native.Mathlib.Nat.{not-suc-le-zero}
use native.Mathlib.Omega.{arith}
use lib.ListN.{get_or}
use Rattle.definitions.proofs.Codeword.{value_nil, value_cons}
use Rattle.definitions.specs.Field.{value}
use Rattle.definitions.specs.Polynomial.{Term, Passes}
use Rattle.definitions.specs.Roots.{compose}
use Rattle.algebra.specs.Ring.{Ring}
use Rattle.algebra.proofs.Composition.{value_at, evaluate_compose}
use Rattle.algebra.proofs.Evaluation.{evaluate}
use Rattle.algebra.proofs.Hasse.{around, value_around, in_series, hasse_is_coefficient}
use Rattle.algebra.proofs.RingLaws.{ring, plus_self, plus_self_left}
use Rattle.algebra.proofs.Series.{Series, add_s, constant, constants, linear, Order, add_s_at, zero_s_at, constant_zero, order_mul_suc}
use Rattle.algebra.proofs.Taylor.{taylor, taylor_zero}

module _ (A : Ring) where
  open A.ops use {K, o, add as ◌⊕◌}

  infixl 60 ◌⊕◌
  -- a polynomial in Y over power series, whose coefficient of X^s Y^t is zero for s + t < m, has order m where a series without constant is
  -- put for Y
  order_value : (r : ℕ → K) → r zero ≡ o → (w : List (ℕ → K)) (m : ℕ) → ((s t : ℕ) → s + t < m → get_or w t (Series A).ops.o s ≡ o)
      → Order A m (value (Series A).ops r w)
  order_value r e w zero h k l = absurd (not-suc-le-zero l)
  order_value r e [] (suc m) h k l = rw (value_nil (Series A).ops r) (zero_s_at A k)
  order_value r e (c ∷ w) (suc m) h k l =
      rw (value_cons (Series A).ops r c w)
      (simp (add_s_at, h k zero (omega arith), order_mul_suc A r (value (Series A).ops r w) m e (order_value r e w m (λ s t q. h s (suc t) (omega arith))) k l, ring))

  -- the key lemma
  pub key_lemma : (f : List K) (q : List (Term A.ops)) (a : K) (m : ℕ) → Passes A.ops q a (value A.ops a f) m
      → Order A m (taylor A a (compose A.ops f q))
  unfolding taylor
  key_lemma f q a m passes = rw whole (order_value rest rest_zero w m (λ s t l. hasse_is_coefficient A a b q s t ∙ passes s t l))
    where
      -- the symbol that f has at a
      b : K
      b = value A.ops a f

      -- f(X + a) without its constant
      rest : ℕ → K
      rest = add_s A (constant A b) (taylor A a f)

      -- it has none
      rest_zero : rest zero ≡ o
      rest_zero = add_s_at A (constant A b) (taylor A a f) zero ∙ ap₂ ◌⊕◌ (constant_zero A b) (taylor_zero A a f) ∙ plus_self A b

      -- Q(X + a, b + Y)
      w : List (ℕ → K)
      w = around (Series A) (linear A a) (constant A b) (in_series A q)

      -- Q(X + a, f(X + a)) is its value at that rest
      whole : evaluate A (Series A) (constants A) (linear A a) (compose A.ops f q) ≡ value (Series A).ops rest w
      whole =
          evaluate_compose A (Series A) (constants A) (linear A a) f q
          ∙ ap (λ (y : ℕ → K). value_at (Series A) (linear A a) y (in_series A q)) (sym (plus_self_left (Series A) (constant A b) (taylor A a f)))
          ∙ sym (value_around (Series A) (linear A a) (constant A b) rest (in_series A q))
