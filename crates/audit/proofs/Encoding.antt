-- Encoding keeps sums and multiples, in any code that carries a field: values of polynomials do, over the field, and are carried to the symbols.
-- Assumes nothing.
use mathlib.Core.List.{List, map}
use mathlib.Core.Path.{◌≡◌, refl, sym, ◌∙◌, ap, ap₂, subst}
use Prim.Native.Nat.{ℕ, zero, suc, ◌<◌}
use native.Mathlib.Omega.{arith}
use lib.ListN.{get_or, replicate, length-replicate}
use lib.Seq.{ext_get_or}
use Rattle.algebra.proofs.Carry.{carry_value, carry_scaled}
use Rattle.algebra.proofs.Elements.{zero_symbol, plus_same, plus_none, times_none}
use Rattle.algebra.proofs.Numbers.{elements, numbers_elements, numbers_symbols, point_symbol, number_value_at}
use Rattle.algebra.proofs.Polynomials.{length_sum, plus_at, length_scaled, scaled_at, value_plus, value_scaled}
use Rattle.algebra.proofs.Solutions.{numbers_plus, symbols_plus}
use Rattle.algebra.specs.FieldOf.{FieldOf}
use Rattle.audit.specs.Words.{Message, added, multiplied}
use Rattle.definitions.proofs.Codeword.{value_nil, value_cons, length_codeword, codeword_at}
use Rattle.definitions.proofs.Zeros.{zero_at}
use Rattle.definitions.specs.Code.{Symbols, point, codeword}
use Rattle.definitions.specs.Field.{Ops, Code, numbers, value}
use Rattle.definitions.specs.Roots.{plus, scaled}

module _ (C : Code) (F : FieldOf C) where
  abbrev G : Ops
  G = F.ring.ops

  abbrev N : Ops
  N = numbers C

  abbrev φ : G.K → ℕ
  φ = F.number.φ

  -- the value of the numbers of elements is the number of the elements' value
  pub value_of_numbers : (a : ℕ) → a < C.symbols → (p : List F.ring.ops.K)
      → value (numbers C) a (map F.number.φ p) ≡ F.number.φ (value F.ring.ops (F.element a) p)
  value_of_numbers a h p =
      ap (λ (b : ℕ). value N b (map φ p)) (sym (F.number_element a h)) ∙ sym (carry_value G N F.number (F.element a) p)

  -- ---- sums

  value_of_sum : (a : ℕ) → a < C.symbols → (f g : List ℕ) → Symbols C f → Symbols C g → value N a (added C f g) ≡ C.plus (value N a f) (value N a g)
  value_of_sum a h f g sf sg =
      let ef = elements C F f in
      let eg = elements C F g in
      let x = F.element a in
      ap (value N a) (sym (numbers_plus C F f g sf sg)) ∙ value_of_numbers a h (plus G ef eg) ∙ ap φ (value_plus F.ring x ef eg)
      ∙ F.number.φ_add (value G x ef) (value G x eg) ∙ ap₂ C.plus (number_value_at C F a f h sf) (number_value_at C F a g h sg)

  module _ (k : ℕ) (f g : List ℕ) (mf : Message C k f) (mg : Message C k g) where
    pub sum_is_message : Message C k (added C f g)
    sum_is_message = (length_sum N f g (let a = mf.0 in let b = mg.0 in omega arith) ∙ mg.0, symbols_plus C F f g mf.1 mg.1)

    pub sum_encoded : (n : ℕ) → codeword C n (added C f g) ≡ added C (codeword C n f) (codeword C n g)
    sum_encoded n =
        let sizes = length_codeword C f n ∙ sym (length_codeword C g n) in
        let size = length_sum N (codeword C n f) (codeword C n g) (omega arith) ∙ length_codeword C g n in
        ext_get_or 0 (codeword C n (added C f g)) (added C (codeword C n f) (codeword C n g)) (length_codeword C (added C f g) n ∙ sym size)
        (λ i l.
        let e = length_codeword C (added C f g) n in
        let d = length_codeword C g n in
        codeword_at C (added C f g) n i (omega arith) ∙ value_of_sum (point C i) (point_symbol C F i) f g mf.1 mg.1
        ∙ sym
        (plus_at N (codeword C n f) (codeword C n g) i sizes (omega arith)
        ∙ ap₂ C.plus (codeword_at C f n i (omega arith)) (codeword_at C g n i (omega arith))))

  -- what is added to itself is zero
  pub sum_with_itself : (k : ℕ) (f : List ℕ) → Message C k f → added C f f ≡ replicate k 0
  sum_with_itself k f m =
      let none = length-replicate {A = ℕ} k 0 in
      let size = (sum_is_message k f f m m).0 in
      ext_get_or 0 (added C f f) (replicate k 0) (size ∙ sym none)
      (λ i l. let e = m.0 in plus_at N f f i refl (omega arith) ∙ plus_same C F (get_or f i 0) (m.1 i) ∙ sym (zero_at k i))

  -- ---- multiples

  module _ (c : ℕ) (hc : c < C.symbols) where
    numbers_scaled : (f : List ℕ) → Symbols C f → map φ (scaled G (F.element c) (elements C F f)) ≡ multiplied C c f
    numbers_scaled f s =
        carry_scaled G N F.number (F.element c) (elements C F f) ∙ ap₂ (scaled N) (F.number_element c hc) (numbers_elements C F f s)

    value_of_multiple : (a : ℕ) → a < C.symbols → (f : List ℕ) → Symbols C f → value N a (multiplied C c f) ≡ C.times c (value N a f)
    value_of_multiple a h f s =
        let ef = elements C F f in
        let x = F.element a in
        ap (value N a) (sym (numbers_scaled f s)) ∙ value_of_numbers a h (scaled G (F.element c) ef)
        ∙ ap φ (value_scaled F.ring x (F.element c) ef) ∙ F.number.φ_mul (F.element c) (value G x ef)
        ∙ ap₂ C.times (F.number_element c hc) (number_value_at C F a f h s)

    module _ (k : ℕ) (f : List ℕ) (m : Message C k f) where
      pub multiple_is_message : Message C k (multiplied C c f)
      multiple_is_message =
          (length_scaled N c f ∙ m.0, subst (Symbols C) (numbers_scaled f m.1) (numbers_symbols C F (scaled G (F.element c) (elements C F f))))

      pub multiple_encoded : (n : ℕ) → codeword C n (multiplied C c f) ≡ multiplied C c (codeword C n f)
      multiple_encoded n =
          let size = length_scaled N c (codeword C n f) ∙ length_codeword C f n in
          ext_get_or 0 (codeword C n (multiplied C c f)) (multiplied C c (codeword C n f)) (length_codeword C (multiplied C c f) n ∙ sym size)
          (λ i l.
          let e = length_codeword C (multiplied C c f) n in
          let d = length_codeword C f n in
          codeword_at C (multiplied C c f) n i (omega arith) ∙ value_of_multiple (point C i) (point_symbol C F i) f m.1
          ∙ sym (scaled_at N c (codeword C n f) i (omega arith) ∙ ap (C.times c) (codeword_at C f n i (omega arith))))

  -- ---- zero

  pub value_of_zeros : (a : ℕ) → a < C.symbols → (k : ℕ) → value (numbers C) a (replicate k 0) ≡ 0
  value_of_zeros a h zero = value_nil N a
  value_of_zeros a h (suc k) =
      value_cons N a 0 (replicate k 0) ∙ ap (λ (v : ℕ). C.plus 0 (C.times a v)) (value_of_zeros a h k) ∙ ap (C.plus 0) (times_none C F a h)
      ∙ plus_none C F 0 (zero_symbol C F)

  pub zero_encoded : (n k : ℕ) → codeword C n (replicate k 0) ≡ replicate n 0
  zero_encoded n k =
      let none = length-replicate {A = ℕ} n 0 in
      let size = length_codeword C (replicate k 0) n in
      ext_get_or 0 (codeword C n (replicate k 0)) (replicate n 0) (size ∙ sym none)
      (λ i l. codeword_at C (replicate k 0) n i (omega arith) ∙ value_of_zeros (point C i) (point_symbol C F i) k ∙ sym (zero_at n i))
