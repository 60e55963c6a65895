-- The theorem on the order of monomials: all of weighted degree at most D, each once, by weighted degree, then by the power of y.
-- Assumes nothing.
use mathlib.Core.List.Memᴰ
use mathlib.Core.List.{List, flat_map, Memᴰ}
use mathlib.Core.Logic.{◌⊎◌, inl, inr, ⊎_elim}
use mathlib.Core.Path.{◌≡◌, sym, ◌∙◌, ap}
use Prim.Native.Nat.{ℕ, zero, suc, ◌+◌, ◌-◌, ◌*◌, ◌/◌, ◌≤◌, ◌<◌}
use native.Mathlib.Decide.{dec_lt}
use native.Mathlib.Nat.{le-div_iff_mul-le, zero-div, mul-div-le, div-mul-le_self, mul-le-mul_left}
use native.Mathlib.Numerals.{add-one}
use native.Mathlib.Omega.{arith}
use lib.ListN.{length, get_or, length-append}
use Rattle.definitions.specs.Bound.{count}
use Rattle.definitions.specs.Polynomial.{weighted, monomials_of, monomials}
use Rattle.definitions.specs.Tools.{below}
use Rattle.definitions.proofs.Bound.{count_zero, count_suc}
use Rattle.definitions.proofs.Joined.{join_nil, join_member, member_join, ordered_join, join_below}
use Rattle.definitions.proofs.Ordered.{Ordered, ordered_map, ordered_once, below_ordered}
use Rattle.definitions.proofs.Tools.{below_zero, length_map_below, below_member, member_below}

-- "ordered by weighted degree, then by the power of y, lower first"
abbrev pub Earlier : ℕ → ℕ × ℕ → ℕ × ℕ → Type 0
Earlier v m n = (weighted v m < weighted v n) ⊎ ((weighted v m ≡ weighted v n) × (m.1 < n.1))

pub record MonomialOrder (v D : ℕ) : Type 0 where
  -- "N(D) counts the monomials of weighted degree at most D"
  pub size : length (monomials v D) ≡ count v D
  -- each is of weighted degree at most D
  pub within : (m : ℕ × ℕ) → Memᴰ m (monomials v D) → weighted v m ≤ D
  -- every monomial of weighted degree at most D is among them
  pub each : (m : ℕ × ℕ) → weighted v m ≤ D → Memᴰ m (monomials v D)
  -- by weighted degree, then by the power of y
  pub ordered : Ordered (Earlier v) (monomials v D)
  -- no two places hold the same
  pub once : (i j : ℕ) → i < length (monomials v D) → j < length (monomials v D) → get_or (monomials v D) i (0, 0) ≡ get_or (monomials v D) j (0, 0) → i ≡ j

-- no monomial is earlier than itself
pub earlier_irreflexive : (v : ℕ) (m : ℕ × ℕ) → Earlier v m m → ⊥
earlier_irreflexive v m e = ⊎_elim (λ h. let z : ⊥ = omega arith in z) (λ h. let k = h.1 in let z : ⊥ = omega arith in z) e

-- up to w / v a power of y is within the weighted degree w
pub power_within : (v w b : ℕ) → b ≤ w / v → v * b ≤ w
power_within v w b h = let m = mul-le-mul_left v h in omega (arith, mul-div-le w v)

-- a greater weighted degree, as great a power of y
pub degree_grows : (v d D : ℕ) → 0 < v → d ≤ D → d / v ≤ D / v
degree_grows v d D pos l = let e = div-mul-le_self d v in (le-div_iff_mul-le pos).1 (omega arith)

module _ (v : ℕ) where
  -- those of weighted degree w: their number
  pub length_monomials_of : (w : ℕ) → length (monomials_of v w) ≡ w / v + 1
  length_monomials_of w = length_map_below (λ (b : ℕ). (w - v * b, b)) (w / v + 1)

  -- those of weighted degree below d
  abbrev pub lower : ℕ → List (ℕ × ℕ)
  lower d = flat_map (monomials_of v) (below d)

  -- there are none below 0
  pub none_lower : 0 ≡ length (lower 0)
  none_lower = sym (ap (λ (l : List ℕ). length (flat_map (monomials_of v) l)) below_zero ∙ ap length (join_nil (monomials_of v)))

  -- degree d brings one for each power of y
  pub lower_more : (d : ℕ) → length (lower (suc d)) ≡ length (lower d) + (d / v + 1)
  lower_more d =
      ap length (join_below (monomials_of v) d) ∙ length-append (lower d) (monomials_of v d) ∙ ap (λ (n : ℕ). length (lower d) + n) (length_monomials_of d)

  -- a greater degree, more of them
  pub lower_grows : (d e : ℕ) → d ≤ e → length (lower d) ≤ length (lower e)
  lower_grows d zero h = let z : d ≡ 0 = omega arith in rw z (omega arith)
  lower_grows d (suc e) h =
      elim (dec_lt d (suc e)) [
        | yes k ↦ let r = lower_grows d e (omega arith) in let s = lower_more e in omega arith
        | no n ↦ let z : d ≡ suc e = omega arith in rw z (omega arith)
      ]

module _ (v : ℕ) (pos : 1 ≤ v) where
  -- a power of y up to w/v leaves room for a power of x
  room : (w b : ℕ) → Memᴰ b (below (w / v + 1)) → v * b ≤ w
  room w b m =
      let h = member_below (w / v + 1) b m in
      power_within v w b (omega arith)

  -- each is of weighted degree w
  of_degree : (w : ℕ) (m : ℕ × ℕ) → Memᴰ m (monomials_of v w) → weighted v m ≡ w
  of_degree w m k =
      let r = Memᴰ.of_map _ (below (w / v + 1)) k in
      let h = room w r.0 r.1 in
      ap (weighted v) (sym r.2) ∙ omega arith

  -- every such monomial is among them
  of_each : (m : ℕ × ℕ) → Memᴰ m (monomials_of v (weighted v m))
  of_each m =
      let h : m.1 ≤ weighted v m / v = (le-div_iff_mul-le pos).1 (omega arith) in
      let e : m.0 ≡ weighted v m - v * m.1 = omega arith in
      Memᴰ.cast (ap (λ (a : ℕ). (a, m.1)) e)
      (Memᴰ.map _ (below_member (weighted v m / v + 1) m.1 (omega arith)))

  -- by the power of y
  of_ordered : (w : ℕ) → Ordered (Earlier v) (monomials_of v w)
  of_ordered w =
      ordered_map (Earlier v) ◌<◌ _ (below (w / v + 1))
      (λ a b s t h. let k = room w a s in let l = room w b t in inr (omega arith, h)) (below_ordered (w / v + 1))

  -- degree by degree they are as many as N(D) counts
  size_of : (D : ℕ) → length (lower v (suc D)) ≡ count v D
  size_of zero =
      let a = none_lower v in
      let b = lower_more v 0 in
      let c = zero-div v in
      let d = count_zero v pos in
      omega arith
  size_of (suc D) = let a = lower_more v (suc D) in let b = size_of D in let c = count_suc v pos D in omega arith

  -- degree by degree they stand in order
  ordered_of : (D : ℕ) → Ordered (Earlier v) (monomials v D)
  ordered_of D =
      ordered_join (monomials_of v) (Earlier v) ◌<◌ of_ordered
      (λ a b x y h s t. let k = of_degree a x s in let l = of_degree b y t in inl (omega arith)) _ (below_ordered _)

  -- the monomials stand in document 01's order
  pub monomials_in_order : (D : ℕ) → MonomialOrder v D
  monomials_in_order D = record {
    size = ap (λ (n : ℕ). length (flat_map (monomials_of v) (below n))) (add-one D) ∙ size_of D;
    within = λ m k. (let r = member_join (monomials_of v) (below (D + 1)) m k in let h = member_below (D + 1) r.0 r.1 in let e = of_degree r.0 m r.2 in omega arith);
    each = λ m h. join_member (monomials_of v) (below (D + 1)) (weighted v m) m (below_member (D + 1) (weighted v m) (omega arith)) (of_each m);
    ordered = ordered_of D;
    once = ordered_once (Earlier v) (earlier_irreflexive v) (monomials v D) (ordered_of D) (0, 0);
  }
