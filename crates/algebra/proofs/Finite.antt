-- The field of 2 ^ w symbols that a modulus makes. Its laws come from tests that are computed, of at most 4 ^ w pairs: associativity and
-- distributivity are proved, and no triple is tested.
-- Assumes nothing.
use mathlib.Core.Bool.{Bool, true, false, cond, not, ◌||◌}
use mathlib.Core.Logic.{◌≢◌}
use mathlib.Core.Path.{◌≡◌, refl, sym, ◌∙◌, ap, ap₂, subst}
use Prim.Native.Nat.{ℕ, zero, suc, ◌-◌, ◌/◌, ◌%◌, ◌^◌, ◌≤◌, ◌<◌, Fin}
use native.Mathlib.Nat.{mod-lt, mod-eq_of_lt}
use native.Mathlib.Omega.{arith}
use lib.Dec.{T, T_not, eqb, eqb→eq, eqb_refl, ltb, ltb→lt}
use Rattle.definitions.specs.Code.{point}
use Rattle.definitions.specs.Field.{Code, code_of, sum_of, double, shifted, product_of, inverse_of}
use Rattle.algebra.specs.FieldOf.{FieldOf}
use Rattle.algebra.specs.Ring.{Ring, IsField}
use Rattle.algebra.proofs.Sums.{sum_assoc, sum_comm, sum_neutral, zero_sum, sum_self, sum_lt, sums}
use Rattle.algebra.proofs.Tests.{every, every_pair, every_at, every_pair_at, other_passes}

module _ (w modulus : ℕ) where
  -- α times a symbol
  abbrev d : ℕ → ℕ
  d = double w modulus

  -- b where the lowest bit of a is one, else 0
  unfoldable chosen : ℕ → ℕ → ℕ
  chosen a b = cond (eqb (a % 2) 1) b 0

  -- the product over one bit more
  shifted_suc : (n a b : ℕ) → shifted w modulus (suc n) a b ≡ sum_of (chosen a b) (shifted w modulus n (a / 2) (d b))
  unfolding shifted chosen
  shifted_suc n a b = refl

  -- choosing keeps sums
  cond_sum : (t : Bool) (b c : ℕ) → cond t (sum_of b c) 0 ≡ sum_of (cond t b 0) (cond t c 0)
  cond_sum true b c = refl
  cond_sum false b c = sym (sum_neutral 0)

  -- for the chosen bit
  chosen_sum : (a b c : ℕ) → chosen a (sum_of b c) ≡ sum_of (chosen a b) (chosen a c)
  unfolding chosen
  chosen_sum a b c = cond_sum (eqb (a % 2) 1) b c

  -- choosing keeps symbols
  cond_lt : (t : Bool) (b q : ℕ) → b < q → cond t b 0 < q
  cond_lt true b q h = h
  cond_lt false b q h = omega arith

  -- for the chosen bit
  chosen_lt : (a b q : ℕ) → b < q → chosen a b < q
  unfolding chosen
  chosen_lt a b q h = cond_lt (eqb (a % 2) 1) b q h

  -- 0 times a symbol is 0
  shifted_zero : (n b : ℕ) → shifted w modulus n 0 b ≡ 0
  unfolding shifted
  shifted_zero zero b = refl
  shifted_zero (suc n) b = zero_sum (shifted w modulus n 0 (d b)) ∙ shifted_zero n (d b)

  -- of 2, which is α, only the second bit is one
  second_bit : (n b : ℕ) → shifted w modulus (suc (suc n)) 2 b ≡ double w modulus b
  unfolding shifted
  second_bit n b = zero_sum (sum_of (d b) (shifted w modulus n 0 (d (d b)))) ∙ ap (sum_of (d b)) (shifted_zero n (d (d b))) ∙ sum_neutral (d b)

  -- so doubling is the product by 2
  pub double_is_product : 2 ≤ w → (b : ℕ) → double w modulus b ≡ product_of w modulus 2 b
  double_is_product wide b = sym (second_bit (w - 2) b) ∙ ap (λ (n : ℕ). shifted w modulus n 2 b) (let e : suc (suc (w - 2)) ≡ w = omega arith in e)

  module _ (positions : ℕ) where
    -- what is computed of the modulus: doubling keeps symbols, sums and products, the product is commutative, 1 is neutral, each symbol
    -- but 0 has an inverse, and the points differ
    pub record Tested : Type 0 where
      pub wide : 2 < 2 ^ w
      pub double_symbol : T (every (2 ^ w) (λ a. ltb (double w modulus a) (2 ^ w)))
      pub double_sum : T (every_pair (2 ^ w) (λ a b. eqb (double w modulus (sum_of a b)) (sum_of (double w modulus a) (double w modulus b))))
      pub double_product : T (every_pair (2 ^ w) (λ a b.
          eqb (double w modulus (product_of w modulus a b)) (product_of w modulus (double w modulus a) b)))
      pub product_comm : T (every_pair (2 ^ w) (λ a b. eqb (product_of w modulus a b) (product_of w modulus b a)))
      pub product_one : T (every (2 ^ w) (λ a. eqb (product_of w modulus a 1) a))
      pub product_inverse : T (every (2 ^ w) (λ a.
          eqb a 0 || eqb (product_of w modulus a (inverse_of (code_of w modulus positions) a % 2 ^ w)) 1))
      pub points_differ : T (every positions (λ j.
          every j (λ i. not (eqb (point (code_of w modulus positions) i) (point (code_of w modulus positions) j)))))

    module _ (t : Tested) where
      -- the code
      abbrev C : Code
      C = code_of w modulus positions

      -- its product
      abbrev product : ℕ → ℕ → ℕ
      product = product_of w modulus

      -- 1 is a symbol
      one_lt : 1 < 2 ^ w
      one_lt = let h = t.wide in omega arith

      -- 0 is a symbol
      zero_lt : 0 < 2 ^ w
      zero_lt = let h = t.wide in omega arith

      -- doubling gives a symbol
      double_lt : (a : ℕ) → a < 2 ^ w → d a < 2 ^ w
      double_lt a h = ltb→lt _ _ (every_at (2 ^ w) (λ x. ltb (d x) (2 ^ w)) t.double_symbol a h)

      -- doubling is additive
      double_of_sum : (a b : ℕ) → a < 2 ^ w → b < 2 ^ w → d (sum_of a b) ≡ sum_of (d a) (d b)
      double_of_sum a b ha hb = eqb→eq _ _ (every_pair_at (2 ^ w) (λ x y. eqb (d (sum_of x y)) (sum_of (d x) (d y))) t.double_sum a b ha hb)

      -- doubling a product doubles a factor
      double_of_product : (a b : ℕ) → a < 2 ^ w → b < 2 ^ w → d (product a b) ≡ product (d a) b
      double_of_product a b ha hb =
          eqb→eq _ _ (every_pair_at (2 ^ w) (λ x y. eqb (d (product x y)) (product (d x) y)) t.double_product a b ha hb)

      -- the product is commutative
      product_turn : (a b : ℕ) → a < 2 ^ w → b < 2 ^ w → product a b ≡ product b a
      product_turn a b ha hb = eqb→eq _ _ (every_pair_at (2 ^ w) (λ x y. eqb (product x y) (product y x)) t.product_comm a b ha hb)

      -- a product is a symbol
      shifted_lt : (n a b : ℕ) → b < 2 ^ w → shifted w modulus n a b < 2 ^ w
      unfolding shifted chosen
      shifted_lt zero a b h = zero_lt
      shifted_lt (suc n) a b h =
          sum_lt w (chosen a b) (shifted w modulus n (a / 2) (d b)) (chosen_lt a b (2 ^ w) h) (shifted_lt n (a / 2) (d b) (double_lt b h))

      -- one bit more
      sum_step : (n a b c : ℕ) → b < 2 ^ w → c < 2 ^ w
          → shifted w modulus n (a / 2) (sum_of (d b) (d c)) ≡ sum_of (shifted w modulus n (a / 2) (d b)) (shifted w modulus n (a / 2) (d c))
          → shifted w modulus (suc n) a (sum_of b c) ≡ sum_of (shifted w modulus (suc n) a b) (shifted w modulus (suc n) a c)
      sum_step n a b c hb hc ih =
          rw (shifted_suc n a (sum_of b c), shifted_suc n a b, shifted_suc n a c, double_of_sum b c hb hc, ih, chosen_sum a b c) (simp sums)

      -- the product is additive on the right
      shifted_sum : (n a b c : ℕ) → b < 2 ^ w → c < 2 ^ w
          → shifted w modulus n a (sum_of b c) ≡ sum_of (shifted w modulus n a b) (shifted w modulus n a c)
      unfolding shifted
      shifted_sum zero a b c hb hc = sym (sum_neutral 0)
      shifted_sum (suc n) a b c hb hc = sum_step n a b c hb hc (shifted_sum n (a / 2) (d b) (d c) (double_lt b hb) (double_lt c hc))

      -- so on the left
      sum_product : (a b c : ℕ) → a < 2 ^ w → b < 2 ^ w → c < 2 ^ w → product (sum_of a b) c ≡ sum_of (product a c) (product b c)
      sum_product a b c ha hb hc =
          product_turn (sum_of a b) c (sum_lt w a b ha hb) hc ∙ shifted_sum w c a b ha hb
          ∙ ap₂ sum_of (product_turn c a hc ha) (product_turn c b hc hb)

      -- choosing keeps products
      cond_product : (s : Bool) (b c : ℕ) → cond s (product b c) 0 ≡ product (cond s b 0) c
      cond_product true b c = refl
      cond_product false b c = sym (shifted_zero w c)

      -- for the chosen bit
      chosen_product : (a b c : ℕ) → chosen a (product b c) ≡ product (chosen a b) c
      unfolding chosen
      chosen_product a b c = cond_product (eqb (a % 2) 1) b c

      -- one bit more
      product_step : (n a b c : ℕ) → b < 2 ^ w → c < 2 ^ w
          → shifted w modulus n (a / 2) (product (d b) c) ≡ product (shifted w modulus n (a / 2) (d b)) c
          → shifted w modulus (suc n) a (product b c) ≡ product (shifted w modulus (suc n) a b) c
      product_step n a b c hb hc ih =
          shifted_suc n a (product b c)
          ∙ ap₂ sum_of (chosen_product a b c) (ap (λ (x : ℕ). shifted w modulus n (a / 2) x) (double_of_product b c hb hc) ∙ ih)
          ∙ sym (sum_product (chosen a b) (shifted w modulus n (a / 2) (d b)) c (chosen_lt a b (2 ^ w) hb) (shifted_lt n (a / 2) (d b) (double_lt b hb)) hc)
          ∙ ap (λ (x : ℕ). product x c) (sym (shifted_suc n a b))

      -- the product is associative
      shifted_product : (n a b c : ℕ) → b < 2 ^ w → c < 2 ^ w → shifted w modulus n a (product b c) ≡ product (shifted w modulus n a b) c
      unfolding shifted
      shifted_product zero a b c hb hc = sym (shifted_zero w c)
      shifted_product (suc n) a b c hb hc = product_step n a b c hb hc (shifted_product n (a / 2) (d b) c (double_lt b hb) hc)

      -- zero
      unfoldable zero_e : Fin (2 ^ w)
      zero_e = (0, zero_lt)

      -- one
      unfoldable one_e : Fin (2 ^ w)
      one_e = (1, one_lt)

      -- the sum of two elements
      unfoldable add_e : Fin (2 ^ w) → Fin (2 ^ w) → Fin (2 ^ w)
      add_e x y = (sum_of x.0 y.0, sum_lt w x.0 y.0 x.1 y.1)

      -- the product of two elements
      unfoldable mul_e : Fin (2 ^ w) → Fin (2 ^ w) → Fin (2 ^ w)
      mul_e x y = (product x.0 y.0, shifted_lt w x.0 y.0 y.1)

      -- the element that a number stands for
      unfoldable element_of : ℕ → Fin (2 ^ w)
      element_of a = (a % 2 ^ w, mod-lt a zero_lt)

      -- sums are associative
      add_e_assoc : (x y z : Fin (2 ^ w)) → add_e (add_e x y) z ≡ add_e x (add_e y z)
      unfolding add_e
      add_e_assoc x y z = native.Mathlib.Fin.val_path (sum_assoc x.0 y.0 z.0)

      -- sums are commutative
      add_e_comm : (x y : Fin (2 ^ w)) → add_e x y ≡ add_e y x
      unfolding add_e
      add_e_comm x y = native.Mathlib.Fin.val_path (sum_comm x.0 y.0)

      -- zero is neutral
      add_e_zero : (x : Fin (2 ^ w)) → add_e x zero_e ≡ x
      unfolding add_e zero_e
      add_e_zero x = native.Mathlib.Fin.val_path (sum_neutral x.0)

      -- the characteristic is 2
      add_e_self : (x : Fin (2 ^ w)) → add_e x x ≡ zero_e
      unfolding add_e zero_e
      add_e_self x = native.Mathlib.Fin.val_path (sum_self x.0)

      -- products are associative
      mul_e_assoc : (x y z : Fin (2 ^ w)) → mul_e (mul_e x y) z ≡ mul_e x (mul_e y z)
      unfolding mul_e
      mul_e_assoc x y z = native.Mathlib.Fin.val_path (sym (shifted_product w x.0 y.0 z.0 y.1 z.1))

      -- products are commutative
      mul_e_comm : (x y : Fin (2 ^ w)) → mul_e x y ≡ mul_e y x
      unfolding mul_e
      mul_e_comm x y = native.Mathlib.Fin.val_path (product_turn x.0 y.0 x.1 y.1)

      -- one is neutral
      mul_e_one : (x : Fin (2 ^ w)) → mul_e x one_e ≡ x
      unfolding mul_e one_e
      mul_e_one x = native.Mathlib.Fin.val_path (eqb→eq _ _ (every_at (2 ^ w) (λ a. eqb (product a 1) a) t.product_one x.0 x.1))

      -- products distribute over sums
      mul_e_add : (x y z : Fin (2 ^ w)) → mul_e x (add_e y z) ≡ add_e (mul_e x y) (mul_e x z)
      unfolding add_e mul_e
      mul_e_add x y z = native.Mathlib.Fin.val_path (shifted_sum w x.0 y.0 z.0 y.1 z.1)

      -- a symbol other than 0 has an inverse
      unit_of : (a : ℕ) → a < 2 ^ w → a ≢ 0 → product a (inverse_of C a % 2 ^ w) ≡ 1
      unit_of a h n =
          eqb→eq _ _
          (other_passes (eqb a 0) _ (every_at (2 ^ w) (λ x. eqb x 0 || eqb (product x (inverse_of C x % 2 ^ w)) 1) t.product_inverse a h)
          (λ z. n (eqb→eq a 0 z)))

      -- and so has an element other than zero
      mul_e_inverse : (x : Fin (2 ^ w)) → x ≢ zero_e → mul_e x (element_of (inverse_of C x.0)) ≡ one_e
      unfolding mul_e element_of one_e zero_e
      mul_e_inverse x n = native.Mathlib.Fin.val_path (unit_of x.0 x.1 (λ e. n (native.Mathlib.Fin.val_path e)))

      -- the field, on the numbers below 2 ^ w
      abbrev finite_ring : Ring
      finite_ring =
          record {
            ops = record { K = Fin (2 ^ w); o = zero_e; i = one_e; add = add_e; mul = mul_e };
            add_assoc = add_e_assoc;
            add_comm = add_e_comm;
            add_zero = add_e_zero;
            add_self = add_e_self;
            mul_assoc = mul_e_assoc;
            mul_comm = mul_e_comm;
            mul_one = mul_e_one;
            mul_add = mul_e_add;
          }

      -- and its inverses
      abbrev finite_field : IsField finite_ring
      finite_field = record { inverse = λ x. element_of (inverse_of C x.0); mul_inverse = mul_e_inverse }

      -- zero is the number 0
      zero_e_number : zero_e.0 ≡ 0
      unfolding zero_e
      zero_e_number = refl

      -- one is the number 1
      one_e_number : one_e.0 ≡ 1
      unfolding one_e
      one_e_number = refl

      -- sums of elements are sums of their numbers
      add_e_number : (x y : Fin (2 ^ w)) → (add_e x y).0 ≡ sum_of x.0 y.0
      unfolding add_e
      add_e_number x y = refl

      -- products of elements are products of their numbers
      mul_e_number : (x y : Fin (2 ^ w)) → (mul_e x y).0 ≡ product x.0 y.0
      unfolding mul_e
      mul_e_number x y = refl

      -- a symbol is the number of its element
      element_of_number : (a : ℕ) → a < 2 ^ w → (element_of a).0 ≡ a
      unfolding element_of
      element_of_number a h = mod-eq_of_lt h

      -- no two points are equal
      differ : (i j : ℕ) → i < j → j < positions → point C i ≢ point C j
      differ i j h k e =
          T_not (eqb (point C i) (point C j))
          (every_at j (λ x. not (eqb (point C x) (point C j)))
          (every_at positions (λ y. every y (λ x. not (eqb (point C x) (point C y)))) t.points_differ j k) i h)
          (subst (λ (x : ℕ). T (eqb (point C i) x)) e (eqb_refl (point C i)))

      -- a modulus that passes its tests makes the symbols of w bits a field
      pub finite : FieldOf (code_of w modulus positions)
      finite =
          record {
            ring = finite_ring;
            field = finite_field;
            number = record { φ = λ x. x.0; φ_zero = zero_e_number; φ_one = one_e_number; φ_add = add_e_number; φ_mul = mul_e_number };
            element = element_of;
            number_element = element_of_number;
            element_number = λ x. native.Mathlib.Fin.val_path (element_of_number x.0 x.1);
            number_symbol = λ x. x.1;
            α_symbol = t.wide;
            points_differ = differ;
          }
