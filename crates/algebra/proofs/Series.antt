-- Power series over a ring, as functions of the index: a ring again. A product is made by recursion on the index, so that its laws are
-- inductions and no sum over an index is ever written. Every definition is shut, and `series` has its equations for `simp`.
-- Assumes nothing.
use mathlib.Core.Path.{◌≡◌, refl, sym, ◌∙◌, fun_ext}
use Prim.Native.Nat.{ℕ, zero, suc, ◌<◌}
use native.Mathlib.Omega.{arith}
use Rattle.algebra.specs.Ring.{Ring, Hom}
use Rattle.algebra.proofs.RingLaws.{ring, plus_assoc, plus_comm, plus_zero, plus_self, one_times}

module _ (R : Ring) where
  open R.ops use {K, o, i, add as ◌⊕◌, mul as ◌⊗◌}

  infixl 60 ◌⊕◌
  infixl 70 ◌⊗◌
  -- the sum
  unfoldable pub add_s : (ℕ → K) → (ℕ → K) → ℕ → K
  add_s f g n = f n ⊕ g n

  -- the series without its constant, one place down
  unfoldable pub tail : (ℕ → K) → ℕ → K
  tail f n = f (suc n)

  -- a multiple
  unfoldable pub scale_s : K → (ℕ → K) → ℕ → K
  scale_s c f n = c ⊗ f n

  -- the product
  unfoldable pub mul_s : (ℕ → K) → (ℕ → K) → ℕ → K
  unfolding tail
  mul_s f g zero = f zero ⊗ g zero
  mul_s f g (suc n) = f zero ⊗ g (suc n) ⊕ mul_s (tail f) g n

  -- a constant
  unfoldable pub constant : K → ℕ → K
  constant c zero = c
  constant c (suc n) = o

  -- zero
  unfoldable pub zero_s : ℕ → K
  zero_s n = o

  -- X + a
  unfoldable pub linear : K → ℕ → K
  linear a zero = a
  linear a (suc n) = constant i n

  -- coefficients of a sum
  pub add_s_at : (f g : ℕ → K) (n : ℕ) → add_s f g n ≡ f n ⊕ g n
  unfolding add_s
  add_s_at f g n = refl

  -- of a tail
  pub tail_at : (f : ℕ → K) (n : ℕ) → tail f n ≡ f (suc n)
  unfolding tail
  tail_at f n = refl

  -- of a multiple
  pub scale_s_at : (c : K) (f : ℕ → K) (n : ℕ) → scale_s c f n ≡ c ⊗ f n
  unfolding scale_s
  scale_s_at c f n = refl

  -- the constant of a product
  pub mul_s_zero : (f g : ℕ → K) → mul_s f g zero ≡ f zero ⊗ g zero
  unfolding mul_s
  mul_s_zero f g = refl

  -- its other coefficients
  pub mul_s_suc : (f g : ℕ → K) (n : ℕ) → mul_s f g (suc n) ≡ f zero ⊗ g (suc n) ⊕ mul_s (tail f) g n
  unfolding mul_s
  mul_s_suc f g n = refl

  -- the tail of a sum
  pub tail_add : (f g : ℕ → K) → tail (add_s f g) ≡ add_s (tail f) (tail g)
  unfolding add_s tail
  tail_add f g = refl

  -- of a multiple
  pub tail_scale : (c : K) (f : ℕ → K) → tail (scale_s c f) ≡ scale_s c (tail f)
  unfolding scale_s tail
  tail_scale c f = refl

  -- of a product
  pub tail_mul : (f g : ℕ → K) → tail (mul_s f g) ≡ add_s (scale_s (f zero) (tail g)) (mul_s (tail f) g)
  unfolding add_s scale_s tail mul_s
  tail_mul f g = refl

  -- the constant of a constant
  pub constant_zero : (c : K) → constant c zero ≡ c
  unfolding constant
  constant_zero c = refl

  -- its other coefficients
  pub constant_suc : (c : K) (n : ℕ) → constant c (suc n) ≡ o
  unfolding constant
  constant_suc c n = refl

  -- its tail
  pub tail_constant : (c : K) → tail (constant c) ≡ zero_s
  unfolding tail constant zero_s
  tail_constant c = refl

  -- coefficients of zero
  pub zero_s_at : (n : ℕ) → zero_s n ≡ o
  unfolding zero_s
  zero_s_at n = refl

  -- its tail
  pub tail_zero : tail zero_s ≡ zero_s
  unfolding tail zero_s
  tail_zero = refl

  -- the constant of X + a
  pub linear_zero : (a : K) → linear a zero ≡ a
  unfolding linear
  linear_zero a = refl

  -- its tail
  pub tail_linear : (a : K) → tail (linear a) ≡ constant i
  unfolding tail linear
  tail_linear a = refl

  pub ruleset series = (
    add_s_at,
    tail_at,
    scale_s_at,
    mul_s_zero,
    mul_s_suc,
    tail_add,
    tail_scale,
    tail_mul,
    constant_zero,
    constant_suc,
    tail_constant,
    zero_s_at,
    tail_zero,
    linear_zero,
    tail_linear,
  )

  -- a multiple of a product
  mul_s_scale : (c : K) (f g : ℕ → K) (n : ℕ) → mul_s (scale_s c f) g n ≡ c ⊗ mul_s f g n
  mul_s_scale c f g zero = simp (series, ring)
  mul_s_scale c f g (suc n) = simp (series, mul_s_scale c (tail f) g n, ring)

  -- products distribute over sums on the left
  mul_s_add_left : (f g h : ℕ → K) (n : ℕ) → mul_s (add_s f g) h n ≡ mul_s f h n ⊕ mul_s g h n
  mul_s_add_left f g h zero = simp (series, ring)
  mul_s_add_left f g h (suc n) = simp (series, mul_s_add_left (tail f) (tail g) h n, ring)

  -- and on the right
  mul_s_add : (f g h : ℕ → K) (n : ℕ) → mul_s f (add_s g h) n ≡ mul_s f g n ⊕ mul_s f h n
  mul_s_add f g h zero = simp (series, ring)
  mul_s_add f g h (suc n) = simp (series, mul_s_add (tail f) g h n, ring)

  -- the product, taken apart at its other factor
  mul_s_right : (f g : ℕ → K) (n : ℕ) → mul_s f g (suc n) ≡ f (suc n) ⊗ g zero ⊕ mul_s f (tail g) n
  mul_s_right f g zero = mul_s_suc f g zero ∙ simp (series, ring)
  mul_s_right f g (suc n) = mul_s_suc f g (suc n) ∙ simp (mul_s_right (tail f) g n, series, ring)

  -- products are commutative
  pub mul_s_comm : (f g : ℕ → K) (n : ℕ) → mul_s f g n ≡ mul_s g f n
  mul_s_comm f g zero = simp (series, ring)
  mul_s_comm f g (suc n) = mul_s_right f g n ∙ simp (mul_s_comm f (tail g) n, series, ring)

  -- products are associative
  mul_s_assoc : (f g h : ℕ → K) (n : ℕ) → mul_s (mul_s f g) h n ≡ mul_s f (mul_s g h) n
  mul_s_assoc f g h zero = simp (series, ring)
  mul_s_assoc f g h (suc n) =
      simp (series, mul_s_add_left (scale_s (f zero) (tail g)) (mul_s (tail f) g) h n, mul_s_scale (f zero) (tail g) h n, mul_s_assoc (tail f) g h n, ring)

  -- a product with zero is zero
  zero_s_mul : (g : ℕ → K) (n : ℕ) → mul_s zero_s g n ≡ o
  zero_s_mul g zero = simp (series, ring)
  zero_s_mul g (suc n) = simp (series, zero_s_mul g n, ring)

  -- a constant times a series
  pub constant_mul : (c : K) (g : ℕ → K) (n : ℕ) → mul_s (constant c) g n ≡ c ⊗ g n
  constant_mul c g zero = simp series
  constant_mul c g (suc n) = simp (series, zero_s_mul g n, ring)

  -- X + a times a series
  pub linear_mul_zero : (a : K) (g : ℕ → K) → mul_s (linear a) g zero ≡ a ⊗ g zero
  linear_mul_zero a g = simp series

  -- its other coefficients
  pub linear_mul_suc : (a : K) (g : ℕ → K) (n : ℕ) → mul_s (linear a) g (suc n) ≡ a ⊗ g (suc n) ⊕ g n
  linear_mul_suc a g n = simp (series, constant_mul i g n, ring)

  -- sums of series are associative
  pub add_s_assoc : (f g h : ℕ → K) → add_s (add_s f g) h ≡ add_s f (add_s g h)
  unfolding add_s
  add_s_assoc f g h = fun_ext (λ n. plus_assoc R (f n) (g n) (h n))

  -- and commutative
  pub add_s_comm : (f g : ℕ → K) → add_s f g ≡ add_s g f
  unfolding add_s
  add_s_comm f g = fun_ext (λ n. plus_comm R (f n) (g n))

  -- zero is neutral
  pub add_s_zero : (f : ℕ → K) → add_s f zero_s ≡ f
  unfolding add_s zero_s
  add_s_zero f = fun_ext (λ n. plus_zero R (f n))

  -- the characteristic is 2
  pub add_s_self : (f : ℕ → K) → add_s f f ≡ zero_s
  unfolding add_s zero_s
  add_s_self f = fun_ext (λ n. plus_self R (f n))

  -- products of series distribute over sums
  pub mul_s_add_s : (f g h : ℕ → K) → mul_s f (add_s g h) ≡ add_s (mul_s f g) (mul_s f h)
  unfolding add_s
  mul_s_add_s f g h = fun_ext (mul_s_add f g h)

  -- are associative
  pub mul_s_assoc_s : (f g h : ℕ → K) → mul_s (mul_s f g) h ≡ mul_s f (mul_s g h)
  mul_s_assoc_s f g h = fun_ext (mul_s_assoc f g h)

  -- and commutative
  pub mul_s_comm_s : (f g : ℕ → K) → mul_s f g ≡ mul_s g f
  mul_s_comm_s f g = fun_ext (mul_s_comm f g)

  -- one is neutral
  pub mul_s_one : (f : ℕ → K) → mul_s f (constant i) ≡ f
  mul_s_one f = fun_ext (λ n. mul_s_comm f (constant i) n ∙ constant_mul i f n ∙ one_times R (f n))

  -- the ring of power series
  abbrev pub Series : Ring
  Series =
      record {
        ops = record { K = ℕ → K; o = zero_s; i = constant i; add = add_s; mul = mul_s };
        add_assoc = add_s_assoc;
        add_comm = add_s_comm;
        add_zero = add_s_zero;
        add_self = add_s_self;
        mul_assoc = mul_s_assoc_s;
        mul_comm = mul_s_comm_s;
        mul_one = mul_s_one;
        mul_add = mul_s_add_s;
      }

  -- the constant 0 is zero
  pub constant_o : constant o ≡ zero_s
  unfolding constant zero_s
  constant_o = fun_ext go
    where
      go : (n : ℕ) → constant o n ≡ zero_s n
      go zero = refl
      go (suc n) = refl

  -- sums of constants
  pub constant_add : (a b : K) → constant (a ⊕ b) ≡ add_s (constant a) (constant b)
  unfolding constant add_s
  constant_add a b = fun_ext go
    where
      go : (n : ℕ) → constant (a ⊕ b) n ≡ add_s (constant a) (constant b) n
      go zero = refl
      go (suc n) = sym (plus_zero R o)

  -- products of constants
  pub constant_times : (a b : K) → constant (a ⊗ b) ≡ mul_s (constant a) (constant b)
  constant_times a b = fun_ext go
    where
      go : (n : ℕ) → constant (a ⊗ b) n ≡ mul_s (constant a) (constant b) n
      go zero = simp (constant_mul, constant_zero)
      go (suc n) = simp (constant_mul, constant_suc, ring)

  -- power series are an algebra over their coefficients
  abbrev pub constants : Hom R.ops Series.ops
  constants = record { φ = constant; φ_zero = constant_o; φ_one = refl; φ_add = constant_add; φ_mul = constant_times }

  -- X + c and a
  pub linear_add : (c a : K) → add_s (linear c) (constant a) ≡ linear (c ⊕ a)
  unfolding add_s linear constant
  linear_add c a = fun_ext go
    where
      go : (n : ℕ) → add_s (linear c) (constant a) n ≡ linear (c ⊕ a) n
      go zero = refl
      go (suc n) = plus_zero R (linear c (suc n))

  -- the order of a series is at least m: its first m coefficients are zero
  abbrev pub Order : ℕ → (ℕ → K) → Type 0
  Order m s = (k : ℕ) → k < m → s k ≡ o

  -- a product vanishes as far as its second factor does
  order_mul : (f g : ℕ → K) (n : ℕ) → Order (suc n) g → mul_s f g n ≡ o
  order_mul f g zero r = simp (mul_s_zero, r zero (omega arith), ring)
  order_mul f g (suc n) r = simp (mul_s_suc, r (suc n) (omega arith), order_mul (tail f) g n (λ k l. r k (omega arith)), ring)

  -- and one farther where the first factor begins with zero
  pub order_mul_suc : (f g : ℕ → K) (m : ℕ) → f zero ≡ o → Order m g → Order (suc m) (mul_s f g)
  order_mul_suc f g m e r zero l = simp (mul_s_zero, e, ring)
  order_mul_suc f g m e r (suc k) l = simp (mul_s_suc, e, order_mul (tail f) g k (λ n q. r n (omega arith)), ring)
