-- In how many positions the codewords of different messages agree: their messages' sum is a polynomial of k coefficients that has a root at
-- each such point, so with k of them it is zero.
-- Assumes nothing.
use mathlib.Core.Bool.{cond}
use mathlib.Core.List.{List}
use mathlib.Core.Logic.{◌≢◌}
use mathlib.Core.Path.{◌≡◌, sym, ◌∙◌, ap}
use Prim.Native.Nat.{ℕ, zero, suc, ◌+◌, ◌-◌, ◌≤◌, ◌<◌}
use native.Mathlib.Decide.{dec_lt}
use native.Mathlib.Omega.{arith}
use borrow.Author.Tests.{eqb-true}
use lib.Dec.{eqb}
use lib.ListN.{length-map, get_or}
use lib.Seq.{ext_get_or}
use Rattle.algebra.proofs.Elements.{number_injective}
use Rattle.algebra.proofs.Numbers.{elements}
use Rattle.algebra.proofs.Passing.{point_element}
use Rattle.algebra.proofs.Polynomials.{length_sum, value_plus, coefficient_plus}
use Rattle.algebra.proofs.RingLaws.{plus_self, equal_of_sum}
use Rattle.algebra.proofs.RootCounting.{Zero, root_counting}
use Rattle.algebra.proofs.Score.{points_distinct, codeword_of_elements}
use Rattle.algebra.proofs.Series.{Order}
use Rattle.algebra.proofs.Solutions.{number_entry}
use Rattle.algebra.proofs.Taylor.{taylor, taylor_zero}
use Rattle.algebra.specs.FieldOf.{FieldOf}
use Rattle.audit.specs.Words.{Message, agreeing, differing}
use Rattle.definitions.proofs.Tools.{split, sum_zero, sum_suc}
use Rattle.definitions.specs.Code.{codeword}
use Rattle.definitions.specs.Field.{Ops, Code, value}
use Rattle.definitions.specs.Roots.{plus}

-- at each position two words agree or differ
pub agree_or_differ : (n : ℕ) (c d : List ℕ) → agreeing n c d + differing n c d ≡ n
agree_or_differ zero c d =
    let a = sum_zero (λ (i : ℕ). cond (eqb (get_or c i 0) (get_or d i 0)) 1 0) in
    let b = sum_zero (λ (i : ℕ). cond (eqb (get_or c i 0) (get_or d i 0)) 0 1) in
    omega arith
agree_or_differ (suc n) c d =
    let a = sum_suc n (λ (i : ℕ). cond (eqb (get_or c i 0) (get_or d i 0)) 1 0) in
    let b = sum_suc n (λ (i : ℕ). cond (eqb (get_or c i 0) (get_or d i 0)) 0 1) in
    let r = agree_or_differ n c d in
    split (eqb (get_or c n 0) (get_or d n 0)) (λ e. let s = rw e at a in let t = rw e at b in omega arith)
    (λ e. let s = rw e at a in let t = rw e at b in omega arith)

module _ (C : Code) (F : FieldOf C) (n k : ℕ) (f g : List ℕ) (hn : n ≤ C.positions) (mf : Message C k f) (mg : Message C k g) where
  abbrev G : Ops
  G = F.ring.ops

  abbrev difference : List G.K
  difference = plus G (elements C F f) (elements C F g)

  -- one where they agree, and zero elsewhere
  abbrev agrees : ℕ → ℕ
  agrees i = cond (eqb (get_or (codeword C n f) i 0) (get_or (codeword C n g) i 0)) 1 0

  root_where_equal : (i : ℕ) → i < n → get_or (codeword C n f) i 0 ≡ get_or (codeword C n g) i 0 → value G (point_element C F i) difference ≡ G.o
  root_where_equal i h e =
      let x = point_element C F i in
      let same : value G x (elements C F f) ≡ value G x (elements C F g) =
      number_injective C F (value G x (elements C F f)) (value G x (elements C F g))
      (sym (codeword_of_elements C F n f mf.1 i h) ∙ e ∙ codeword_of_elements C F n g mg.1 i h) in
      value_plus F.ring x (elements C F f) (elements C F g) ∙ ap (λ (y : G.K). G.add y (value G x (elements C F g))) same
      ∙ plus_self F.ring (value G x (elements C F g))

  vanishes : (i : ℕ) → i < n → Order F.ring (agrees i) (taylor F.ring (point_element C F i) difference)
  vanishes i h =
      split (eqb (get_or (codeword C n f) i 0) (get_or (codeword C n g) i 0))
      (λ e. rw e (λ t l. at_root (root_where_equal i h (eqb-true (get_or (codeword C n f) i 0) (get_or (codeword C n g) i 0) e)) t l))
      (λ e. rw e (λ t l. let z : ⊥ = omega arith in absurd z))
    where
      at_root : value G (point_element C F i) difference ≡ G.o → (t : ℕ) → t < 1 → taylor F.ring (point_element C F i) difference t ≡ G.o
      at_root root zero l = taylor_zero F.ring (point_element C F i) difference ∙ root
      at_root root (suc t) l = let z : ⊥ = omega arith in absurd z

  all_zero : k ≤ agreeing n (codeword C n f) (codeword C n g) → Zero F.ring.ops difference
  all_zero many =
      let sf = length-map f F.element in
      let sg = length-map g F.element in
      let e = mf.0 in
      let d = mg.0 in
      let size = length_sum G (elements C F f) (elements C F g) (omega arith) in
      root_counting F.ring F.field n (point_element C F) agrees (points_distinct C F n hn) difference (omega arith) vanishes

  same_of_agreement : k ≤ agreeing n (codeword C n f) (codeword C n g) → f ≡ g
  same_of_agreement many =
      ext_get_or 0 f g (mf.0 ∙ sym mg.0)
      (λ t _.
      let a = get_or (elements C F f) t G.o in
      let b = get_or (elements C F g) t G.o in
      sym (number_entry C F f mf.1 t)
      ∙ ap F.number.φ (equal_of_sum F.ring a b (sym (coefficient_plus F.ring (elements C F f) (elements C F g) t) ∙ all_zero many t))
      ∙ number_entry C F g mg.1 t)

  agree_below : f ≢ g → agreeing n (codeword C n f) (codeword C n g) < k
  agree_below other =
      elim (dec_lt (agreeing n (codeword C n f) (codeword C n g)) k) [
        | yes few ↦ few
        | no many ↦ absurd (other (same_of_agreement (omega arith)))
      ]

  pub agree_at_most : f ≢ g → agreeing n (codeword C n f) (codeword C n g) ≤ k - 1
  agree_at_most other = let few = agree_below other in omega arith

  pub differ_at_least : k ≤ n → f ≢ g → n - k + 1 ≤ differing n (codeword C n f) (codeword C n g)
  differ_at_least hk other =
      let both = agree_or_differ n (codeword C n f) (codeword C n g) in
      let few = agree_below other in
      omega arith
