-- A column that is folded by 1, 2, 4 and so on, with c, c², c⁴ and so on, is shifted by c.
-- Assumes nothing.
use mathlib.Core.Bool.{Bool, cond}
use mathlib.Core.List.{List}
use mathlib.Core.Logic.{◌≢◌}
use mathlib.Core.Path.{◌≡◌, refl, sym, ◌∙◌, ap, ap₂, fun_ext, subst}
use Prim.Native.Nat.{ℕ, zero, suc, ◌+◌, ◌*◌, ◌-◌, ◌%◌, ◌^◌, ◌≤◌, ◌<◌}
use native.Mathlib.Decide.{dec_lt}
use native.Mathlib.Nat.{suc-mul, mul_assoc, mul-le-mul_left}
use native.Mathlib.Omega.{arith}
use borrow.Author.Tests.{eq-eqb, ne_eqb}
use lib.Bits.{bit_and, and_block, and_mask, and_zero_r}
use lib.ListN.{length, get_or, get_or-eq_default, length-map}
use lib.Pow.{pow_pos}
use Rattle.algebra.specs.FieldOf.{FieldOf}
use Rattle.algebra.proofs.Elements.{symbol_injective, element_zero, element_plus, element_times, times_symbol}
use Rattle.algebra.proofs.Numbers.{elements, numbers_symbols}
use Rattle.definitions.specs.Code.{Symbols}
use Rattle.definitions.specs.Field.{Code, numbers}
use Rattle.root_tree.specs.Columns.{shift}
use Rattle.root_tree.specs.Fold.{folded}
use Rattle.root_tree.proofs.Elements.{element_at, number_shift, shift_element}
use Rattle.root_tree.proofs.Halves.{two, moved, shift_moved, moved_even, moved_odd, moved_longer, moved_one}

-- ---- places

-- twice a number is a multiple of 2
two_is : (u : ℕ) → two u ≡ u * 2
unfolding two
two_is zero = refl
two_is (suc u) = let e = two_is u in omega arith

-- an even multiple of a bit, and a rest
even_place : (u b r : ℕ) → two u * b + r ≡ u * (2 * b) + r
even_place u b r = ap (λ (n : ℕ). n * b + r) (two_is u) ∙ ap (λ (n : ℕ). n + r) (mul_assoc u 2 b)

-- an odd one
odd_place : (u b r : ℕ) → suc (two u) * b + r ≡ u * (2 * b) + (b + r)
odd_place u b r = let e = even_place u b r in let f = suc-mul (two u) b in omega arith

-- the bit of a multiple of it is that multiple's last
bit_of : (k a r : ℕ) → r < 2 ^ k → bit_and (a * 2 ^ k + r) (2 ^ k) ≡ a % 2 * 2 ^ k
bit_of k a r h =
    let e : 2 ^ k ≡ 1 * 2 ^ k + 0 = omega arith in
    ap (bit_and (a * 2 ^ k + r)) e ∙ and_block k a 1 r 0 h (omega arith)
    ∙ ap₂ (λ (x y : ℕ). x * 2 ^ k + y) (and_mask a 1) (and_zero_r r) ∙ omega arith

module _ (C : Code) (F : FieldOf C) where
  -- the element of a symbol
  abbrev e : ℕ → F.ring.ops.K
  e = F.element

  -- the coefficients of f(y + g), of N coefficients, are those of the b parts into which every b-th entry is put, each moved by c
  abbrev pub Left : ℕ → ℕ → (ℕ → ℕ) → ℕ → ℕ → (ℕ → ℕ) → Type 0
  Left N g f b c now = (q r : ℕ) → r < b → moved F.ring (F.element g) N (λ t. F.element (f t)) (q * b + r) ≡ moved F.ring (F.element c) N (λ u. F.element (now (u * b + r))) q

  -- before the first fold
  pub left_all : (N g : ℕ) (f : ℕ → ℕ) → Left N g f 1 g f
  left_all N g f q r h =
      let z : q * 1 + r ≡ q = omega arith in
      ap (moved F.ring (e g) N (λ t. e (f t))) z
      ∙ ap (λ (x : ℕ → F.ring.ops.K). moved F.ring (e g) N x q) (fun_ext (λ u. ap (λ (t : ℕ). e (f t)) (let y : u ≡ u * 1 + r = omega arith in y)))

  module _ (N g c k : ℕ) (hc : c < C.symbols) (f now : ℕ → ℕ) (s : (t : ℕ) → now t < C.symbols) (zero_from : (t : ℕ) → N ≤ t → now t ≡ 0) where
    -- bit and parts
    abbrev b : ℕ
    b = 2 ^ k

    -- one part
    abbrev part : ℕ → ℕ → F.ring.ops.K
    part r u = e (now (u * b + r))

    -- which ends
    part_ends : (r u : ℕ) → N ≤ u → part r u ≡ F.ring.ops.o
    part_ends r u h = ap e (zero_from (u * b + r) (let l : u * 1 ≤ u * b = mul-le-mul_left u (pow_pos k) in omega arith)) ∙ element_zero C F

    -- so that it may be taken twice as long
    longer : (r q : ℕ) → moved F.ring (e c) N (part r) q ≡ moved F.ring (e c) (two N) (part r) q
    longer r q = sym (moved_longer F.ring (e c) N (two N) (part r) (let t = two_is N in omega arith) (part_ends r) q)

    -- the square of a factor
    square : F.ring.ops.mul (e c) (e c) ≡ e (C.times c c)
    square = sym (element_times C F c c hc hc)

    module _ (after : ℕ → ℕ) (is_folded : (t : ℕ) → after t ≡ folded (numbers C) b c now t) where
      -- what has not the bit
      without : (u r : ℕ) → r < b → F.ring.ops.add (part r (two u)) (F.ring.ops.mul (e c) (part r (suc (two u)))) ≡ e (after (u * (2 * b) + r))
      without u r h =
          let x = u * (2 * b) + r in
          let y : suc (two u) * b + r ≡ x + b = odd_place u b r ∙ (omega arith) in
          ap₂ (λ (m n : ℕ). F.ring.ops.add (e (now m)) (F.ring.ops.mul (e c) (e (now n)))) (even_place u b r) y
          ∙ ap (F.ring.ops.add (e (now x))) (sym (element_times C F c (now (x + b)) hc (s (x + b))))
          ∙ sym (element_plus C F (now x) (C.times c (now (x + b))) (s x) (times_symbol C F c (now (x + b)) hc (s (x + b))))
          ∙ ap e (sym (is_folded x ∙ ap (λ (z : Bool). cond z (C.plus (now x) (C.times c (now (x + b)))) (now x)) (eq-eqb (bit_and x b) 0 (unset x (even_place u b r)))))
        where
          unset : (x : ℕ) → two u * b + r ≡ x → bit_and x b ≡ 0
          unset x p = ap (λ (n : ℕ). bit_and n b) (sym p) ∙ bit_of k (two u) r h ∙ ap (λ (n : ℕ). n * b) (let t = two_is u in let w : two u % 2 ≡ 0 = omega arith in w) ∙ (omega arith)

      -- what has it
      with_bit : (u r : ℕ) → r < b → part r (suc (two u)) ≡ e (after (u * (2 * b) + (b + r)))
      with_bit u r h =
          let x = u * (2 * b) + (b + r) in
          ap (λ (n : ℕ). e (now n)) (odd_place u b r)
          ∙ ap e (sym (is_folded x ∙ ap (λ (z : Bool). cond z (C.plus (now x) (C.times c (now (x + b)))) (now x)) (ne_eqb (bit_and x b) 0 (set x (odd_place u b r)))))
        where
          set : (x : ℕ) → suc (two u) * b + r ≡ x → bit_and x b ≢ 0
          set x p z =
              let v : suc (two u) % 2 ≡ 1 = (let t = two_is u in omega arith) in
              let y = sym (ap (λ (n : ℕ). bit_and n b) (sym p) ∙ bit_of k (suc (two u)) r h ∙ ap (λ (n : ℕ). n * b) v) ∙ z in
              let pos = pow_pos k in
              let w : ⊥ = omega arith in w

      -- one fold more
      pub left_more : Left N g f b c now → Left N g f (2 * b) (C.times c c) after
      left_more l q r h =
          elim (dec_lt r b) [
            | yes low ↦
                ap (moved F.ring (e g) N (λ t. e (f t))) (sym (even_place q b r)) ∙ l (two q) r low ∙ longer r (two q) ∙ moved_even F.ring (e c) N (part r) q
                ∙ ap₂ (λ (x : F.ring.ops.K) (y : ℕ → F.ring.ops.K). moved F.ring x N y q) square (fun_ext (λ u. without u r low))
            | no high ↦
                let low : r - b < b = omega arith in
                let is : b + (r - b) ≡ r = omega arith in
                ap (λ (n : ℕ). moved F.ring (e g) N (λ t. e (f t)) (q * (2 * b) + n)) (sym is)
                ∙ ap (moved F.ring (e g) N (λ t. e (f t))) (sym (odd_place q b (r - b))) ∙ l (suc (two q)) (r - b) low ∙ longer (r - b) (suc (two q))
                ∙ moved_odd F.ring (e c) N (part (r - b)) q
                ∙ ap₂ (λ (x : F.ring.ops.K) (y : ℕ → F.ring.ops.K). moved F.ring x N y q) square
                (fun_ext (λ u. with_bit u (r - b) low ∙ ap (λ (n : ℕ). e (after (u * (2 * b) + n))) is))
          ]

  -- when no entry has the bit, the column is shifted
  pub left_none : (n g : ℕ) → g < C.symbols → (p : List ℕ) → Symbols C p → length p ≤ suc n → (b c : ℕ) (now : ℕ → ℕ) → ((t : ℕ) → now t < C.symbols)
      → ((t : ℕ) → b ≤ t → now t ≡ 0) → Left (suc n) g (λ t. get_or p t 0) b c now → (t : ℕ) → t < b → now t ≡ get_or (shift (numbers C) g p) t 0
  left_none n g hg p sp size b c now s zero_from l t h =
      symbol_injective C F (now t) (get_or (shift (numbers C) g p) t 0) (s t) shifted_symbol
      (ap (λ (m : ℕ). e (now m)) (let z : t ≡ 0 * b + t = omega arith in z)
      ∙ sym (moved_one F.ring (e c) n (λ u. e (now (u * b + t))) (λ u.
      ap e (zero_from (suc u * b + t) (let m = suc-mul u b in omega arith)) ∙ element_zero C F))
      ∙ sym (l 0 t h) ∙ ap (moved F.ring (e g) (suc n) (λ t. e (get_or p t 0))) (let z : 0 * b + t ≡ t = omega arith in z)
      ∙ moved_longer F.ring (e g) (length p) (suc n) (λ t. e (get_or p t 0)) size (λ m k. ap e (get_or-eq_default p 0 k) ∙ element_zero C F) t
      ∙ sym (shift_moved F.ring (e g) (elements C F p) t
      ∙ ap₂ (λ (m : ℕ) (x : ℕ → F.ring.ops.K). moved F.ring (e g) m x t) (length-map p F.element) (fun_ext (λ m. element_at C F p m)))
      ∙ shift_element C F g hg p sp t)
    where
      shifted_symbol : get_or (shift (numbers C) g p) t 0 < C.symbols
      shifted_symbol = subst (λ (x : List ℕ). get_or x t 0 < C.symbols) (number_shift C F g hg p sp) (numbers_symbols C F (shift F.ring.ops (e g) (elements C F p)) t)
