-- A message that is not zero, and whose codeword is zero in k - 1 positions: the product of x + xᵢ over the first k - 1 points.
-- Assumes nothing.
use mathlib.Core.Bool.{cond}
use mathlib.Core.List.{List, [], ◌∷◌, map}
use mathlib.Core.Logic.{◌≢◌}
use mathlib.Core.Path.{◌≡◌, refl, sym, ◌∙◌, ap}
use Prim.Native.Nat.{ℕ, zero, suc, ◌-◌, ◌≤◌, ◌<◌}
use native.Mathlib.Decide.{dec_lt}
use native.Mathlib.Nat.{not-suc-le-zero}
use native.Mathlib.Omega.{arith}
use borrow.Author.Tests.{eq-eqb}
use lib.Dec.{eqb}
use lib.ListN.{length, length-map, get_or, replicate, length-replicate}
use Rattle.algebra.proofs.Elements.{zero_symbol, one_not_zero}
use Rattle.algebra.proofs.Numbers.{numbers_symbols, point_symbol}
use Rattle.algebra.proofs.Passing.{point_element}
use Rattle.algebra.proofs.Polynomials.{length_sum, length_scaled, value_plus, value_scaled}
use Rattle.algebra.proofs.RingLaws.{ring, plus_self, zero_times, times_zero, equal_of_sum, cancel}
use Rattle.algebra.proofs.Score.{points_distinct}
use Rattle.algebra.specs.FieldOf.{FieldOf}
use Rattle.algebra.specs.Ring.{Ring, IsField}
use Rattle.audit.proofs.Agreement.{agree_at_most}
use Rattle.audit.proofs.Encoding.{value_of_numbers, value_of_zeros}
use Rattle.audit.specs.Words.{Message, agreeing}
use Rattle.definitions.proofs.Codeword.{value_nil, value_cons, codeword_at}
use Rattle.definitions.proofs.Symbols.{replicate_symbols}
use Rattle.definitions.proofs.Tools.{sum_suc}
use Rattle.definitions.specs.Code.{point, codeword}
use Rattle.definitions.specs.Field.{Ops, Code, numbers, value}
use Rattle.definitions.specs.Roots.{plus, scaled}

module _ (R : Ring) (x : ℕ → R.ops.K) where
  open R.ops use {K, o, i, add as ◌⊕◌, mul as ◌⊗◌}

  infixl 60 ◌⊕◌
  infixl 70 ◌⊗◌
  -- the product of X + x j over j below m
  pub vanishing : ℕ → List K
  vanishing zero = i ∷ []
  vanishing (suc m) = plus R.ops (scaled R.ops (x m) (vanishing m)) (o ∷ vanishing m)

  pub length_vanishing : (m : ℕ) → length (vanishing m) ≡ suc m
  unfolding vanishing
  length_vanishing zero = refl
  length_vanishing (suc m) =
      let s = length_scaled R.ops (x m) (vanishing m) in
      length_sum R.ops (scaled R.ops (x m) (vanishing m)) (o ∷ vanishing m) (omega arith) ∙ ap suc (length_vanishing m)

  value_one : (y : K) → value R.ops y (vanishing zero) ≡ i
  unfolding vanishing
  value_one y = simp (value_cons, value_nil, ring)

  value_more : (m : ℕ) (y : K) → value R.ops y (vanishing (suc m)) ≡ (x m ⊕ y) ⊗ value R.ops y (vanishing m)
  unfolding vanishing
  value_more m y = simp (value_plus, value_scaled, value_cons, ring)

  -- it vanishes at each of these
  pub vanishes_at : (m j : ℕ) → j < m → value R.ops (x j) (vanishing m) ≡ o
  vanishes_at zero j h = absurd (not-suc-le-zero h)
  vanishes_at (suc m) j h =
      value_more m (x j)
      ∙ elim (dec_lt j m) [
        | yes l ↦ ap (λ (v : K). (x m ⊕ x j) ⊗ v) (vanishes_at m j l) ∙ times_zero R (x m ⊕ x j)
        | no g ↦
            let here : j ≡ m = omega arith in
            ap (λ (k : ℕ). (x m ⊕ x k) ⊗ value R.ops (x j) (vanishing m)) here
            ∙ ap (λ (v : K). v ⊗ value R.ops (x j) (vanishing m)) (plus_self R (x m)) ∙ zero_times R (value R.ops (x j) (vanishing m))
      ]

  -- and nowhere else
  pub nonzero_elsewhere : IsField R → i ≢ o → (m : ℕ) (y : K) → ((j : ℕ) → j < m → x j ≢ y) → value R.ops y (vanishing m) ≢ o
  nonzero_elsewhere F one zero y away e = one (sym (value_one y) ∙ e)
  nonzero_elsewhere F one (suc m) y away e =
      nonzero_elsewhere F one m y (λ j h. away j (omega arith))
      (cancel R F (x m ⊕ y) (value R.ops y (vanishing m)) (λ z. away m (omega arith) (equal_of_sum R (x m) y z)) (sym (value_more m y) ∙ e))

-- words that are the same in the first m of n positions agree in at least m
agree_in_front : (n m : ℕ) (c d : List ℕ) → m ≤ n → ((i : ℕ) → i < m → get_or c i 0 ≡ get_or d i 0) → m ≤ agreeing n c d
agree_in_front zero m c d h same = omega arith
agree_in_front (suc n) m c d h same =
    let s = sum_suc n (λ (i : ℕ). cond (eqb (get_or c i 0) (get_or d i 0)) 1 0) in
    elim (dec_lt n m) [
      | yes l ↦
          let r = agree_in_front n n c d (omega arith) (λ i k. same i (omega arith)) in
          let last = rw (eq-eqb (get_or c n 0) (get_or d n 0) (same n l)) at s in
          omega arith
      | no g ↦ (let r = agree_in_front n m c d (omega arith) same in omega arith)
    ]

module _ (C : Code) (F : FieldOf C) where
  abbrev G : Ops
  G = F.ring.ops

  -- its coefficients, as symbols
  message : ℕ → List ℕ
  message m = map F.number.φ (vanishing F.ring (point_element C F) m)

  value_of_message : (m i : ℕ) → value (numbers C) (point C i) (message m) ≡ F.number.φ (value G (point_element C F i) (vanishing F.ring (point_element C F) m))
  unfolding message
  value_of_message m i = value_of_numbers C F (point C i) (point_symbol C F i) (vanishing F.ring (point_element C F) m)

  message_of : (m : ℕ) → Message C (suc m) (message m)
  unfolding message
  message_of m =
      let p = vanishing F.ring (point_element C F) m in
      (length-map p F.number.φ ∙ length_vanishing F.ring (point_element C F) m, numbers_symbols C F p)

  zero_message : (k : ℕ) → Message C k (replicate k 0)
  zero_message k = (length-replicate {A = ℕ} k 0, replicate_symbols C k 0 (zero_symbol C F))

  module _ (n m : ℕ) (hm : m < n) (hn : n ≤ C.positions) where
    -- at the point after the roots it has another value than zero has
    differs : message m ≢ replicate (suc m) 0
    differs e =
        nonzero_elsewhere F.ring (point_element C F) F.field (one_not_zero C F) m (point_element C F m) (λ j h. points_distinct C F n hn j m h hm)
        (sym (F.element_number (value G (point_element C F m) (vanishing F.ring (point_element C F) m)))
        ∙ ap F.element
        (sym (value_of_message m m) ∙ ap (value (numbers C) (point C m)) e ∙ value_of_zeros C F (point C m) (point_symbol C F m) (suc m) ∙ sym F.number.φ_zero)
        ∙ F.element_number G.o)

    agrees_at_roots : (i : ℕ) → i < m → get_or (codeword C n (message m)) i 0 ≡ get_or (codeword C n (replicate (suc m) 0)) i 0
    agrees_at_roots i h =
        codeword_at C (message m) n i (omega arith) ∙ value_of_message m i ∙ ap F.number.φ (vanishes_at F.ring (point_element C F) m i h)
        ∙ F.number.φ_zero ∙ sym (codeword_at C (replicate (suc m) 0) n i (omega arith) ∙ value_of_zeros C F (point C i) (point_symbol C F i) (suc m))

    agrees_in : agreeing n (codeword C n (message m)) (codeword C n (replicate (suc m) 0)) ≡ suc m - 1
    agrees_in =
        let most = agree_at_most C F n (suc m) (message m) (replicate (suc m) 0) hn (message_of m) (zero_message (suc m)) differs in
        let least = agree_in_front n m (codeword C n (message m)) (codeword C n (replicate (suc m) 0)) (omega arith) agrees_at_roots in
        omega arith

  pub nearest : (n k : ℕ) → 1 ≤ k → k ≤ n → n ≤ C.positions
      → (f : List ℕ) × Message C k f × (f ≢ replicate k 0) × (agreeing n (codeword C n f) (codeword C n (replicate k 0)) ≡ k - 1)
  nearest n zero some hk hn = absurd (not-suc-le-zero some)
  nearest n (suc m) some hk hn = (message m, message_of m, differs n m hk hn, agrees_in n m hk hn)
