-- The walk along the monomials: after k steps it stands at the monomial of place k in document 01's order.
-- Assumes nothing.
use mathlib.Core.Bool.{Bool, cond}
use mathlib.Core.List.{List, flat_map}
use mathlib.Core.Path.{◌≡◌, refl, sym, ◌∙◌, ap, ap₂, subst}
use Prim.Native.Nat.{ℕ, zero, suc, ◌+◌, ◌-◌, ◌*◌, ◌/◌, ◌≤◌, ◌<◌}
use native.Mathlib.Decide.{dec_lt, ℕ_discrete}
use native.Mathlib.Nat.{mul-suc, mul-zero, le-div_iff_mul-le, div-lt_iff_lt-mul, div-le_self, mul_comm}
use native.Mathlib.Numerals.{add-one}
use native.Mathlib.Omega.{arith}
use borrow.Author.Tests.{le-leb, lt-leb}
use lib.ListN.{length, get_or, get_or-append}
use lib.Seq.{get_or-append-add}
use Rattle.definitions.proofs.Joined.{join_below}
use Rattle.definitions.proofs.Monomials.{monomials_in_order, degree_grows, lower, none_lower, lower_more, lower_grows}
use Rattle.definitions.proofs.Tools.{map_below_at}
use Rattle.definitions.specs.Bound.{count}
use Rattle.definitions.specs.Polynomial.{monomials_of, monomials}
use Rattle.definitions.specs.Tools.{below}
use Rattle.monomials.specs.Walk.{Place, next_place, walked}

module _ (v : ℕ) where
  -- no step
  walked_zero : walked v 0 ≡ (0, 0, 0)
  unfolding walked
  walked_zero = refl

  -- one step more
  walked_suc : (k : ℕ) → walked v (k + 1) ≡ next_place v (walked v k)
  unfolding walked
  walked_suc k = ap (walked v) (add-one k)

  -- where v powers of x can be had the degree stays
  stays : (p : Place) → v ≤ p.0 → next_place v p ≡ (p.0 - v, p.1 + 1, p.2)
  unfolding next_place
  stays p h = ap (λ (b : Bool). cond b (p.0 - v, p.1 + 1, p.2) (p.2 + 1, 0, p.2 + 1)) (le-leb v p.0 h)

  -- where they cannot it turns to the next
  turns : (p : Place) → p.0 < v → next_place v p ≡ (p.2 + 1, 0, p.2 + 1)
  unfolding next_place
  turns p h = ap (λ (b : Bool). cond b (p.0 - v, p.1 + 1, p.2) (p.2 + 1, 0, p.2 + 1)) (lt-leb v p.0 h)

  -- the walk begins at 1
  pub walk_begins : (0 ≡ (walked v 0).0) × (0 ≡ (walked v 0).1) × (0 ≡ (walked v 0).2)
  walk_begins = (
    sym (ap (λ (p : Place). p.0) walked_zero),
    sym (ap (λ (p : Place). p.1) walked_zero),
    sym (ap (λ (p : Place). p.2) walked_zero),
  )

  module _ (k x y d : ℕ) (ex : x ≡ (walked v k).0) (ey : y ≡ (walked v k).1) (ed : d ≡ (walked v k).2) where
    -- a power of y for v powers of x
    pub walk_stays : v ≤ x → (x - v ≡ (walked v (k + 1)).0) × (y + 1 ≡ (walked v (k + 1)).1) × (d ≡ (walked v (k + 1)).2)
    walk_stays h =
        let e : walked v (k + 1) ≡ ((walked v k).0 - v, (walked v k).1 + 1, (walked v k).2) = walked_suc k ∙ stays (walked v k) (omega arith) in (
          ap (λ (n : ℕ). n - v) ex ∙ sym (ap (λ (p : Place). p.0) e),
          ap (λ (n : ℕ). n + 1) ey ∙ sym (ap (λ (p : Place). p.1) e),
          ed ∙ sym (ap (λ (p : Place). p.2) e),
        )

    -- the next degree
    pub walk_turns : x < v → (d + 1 ≡ (walked v (k + 1)).0) × (0 ≡ (walked v (k + 1)).1) × (d + 1 ≡ (walked v (k + 1)).2)
    walk_turns h =
        let e : walked v (k + 1) ≡ ((walked v k).2 + 1, 0, (walked v k).2 + 1) = walked_suc k ∙ turns (walked v k) (omega arith) in (
          ap (λ (n : ℕ). n + 1) ed ∙ sym (ap (λ (p : Place). p.0) e),
          sym (ap (λ (p : Place). p.1) e),
          ap (λ (n : ℕ). n + 1) ed ∙ sym (ap (λ (p : Place). p.2) e),
        )

  -- how many monomials have a smaller degree
  abbrev earlier : ℕ → ℕ
  earlier d = length (lower v d)

  -- at least one for each degree
  degree_le : (d : ℕ) → d ≤ earlier d
  degree_le zero = omega arith
  degree_le (suc d) = let s = lower_more v d in let r = degree_le d in omega arith

  -- those of the last degree stand at the end
  last_at : (D b : ℕ) → b < D / v + 1 → get_or (flat_map (monomials_of v) (below (suc D))) (earlier D + b) (0, 0) ≡ (D - v * b, b)
  last_at D b l =
      ap (λ (m : List (ℕ × ℕ)). get_or m (earlier D + b) (0, 0)) (join_below (monomials_of v) D)
      ∙ get_or-append-add (flat_map (monomials_of v) (below D)) (monomials_of v D) b (0, 0)
      ∙ map_below_at (λ (b : ℕ). (D - v * b, b)) (D / v + 1) b (0, 0) l

  -- each has its place
  within : (D d b : ℕ) → d ≤ D → b < d / v + 1 → earlier d + b < length (flat_map (monomials_of v) (below (suc D)))
  within D d b h l = let s = lower_more v d in let m = lower_grows v (suc d) (suc D) (omega arith) in omega arith

  -- those of degree d after the earlier ones
  monomial_at : (D d b : ℕ) → d ≤ D → b < d / v + 1 → get_or (flat_map (monomials_of v) (below (suc D))) (earlier d + b) (0, 0) ≡ (d - v * b, b)
  monomial_at zero d b h l =
      let z : d ≡ 0 = omega arith in
      ap (λ (n : ℕ). get_or (flat_map (monomials_of v) (below 1)) (earlier n + b) (0, 0)) z ∙ last_at 0 b (rw z at l) ∙ ap (λ (n : ℕ). (n - v * b, b)) (sym z)
  monomial_at (suc D) d b h l =
      elim (ℕ_discrete d (suc D)) [
        | yes z ↦
            ap (λ (n : ℕ). get_or (flat_map (monomials_of v) (below (suc (suc D)))) (earlier n + b) (0, 0)) z ∙ last_at (suc D) b (rw z at l)
            ∙ ap (λ (n : ℕ). (n - v * b, b)) (sym z)
        | no n ↦
            ap (λ (m : List (ℕ × ℕ)). get_or m (earlier d + b) (0, 0)) (join_below (monomials_of v) (suc D))
            ∙ get_or-append (flat_map (monomials_of v) (below (suc D))) (monomials_of v (suc D)) (0, 0) (earlier d + b) (within D d b (omega arith) l)
            ∙ monomial_at D d b (omega arith) l
      ]

module _ (v : ℕ) (pos : 0 < v) where
  -- where the walk stands after k steps
  record Stands (k : ℕ) (p : Place) : Type 0 where
    pub place : k ≡ earlier v p.2 + p.1
    pub power : p.1 ≤ p.2 / v
    pub rest : p.0 + v * p.1 ≡ p.2

  -- a power of y that the degree has room for
  room : (x b d : ℕ) → x + v * b ≡ d → v ≤ x → b + 1 ≤ d / v
  room x b d e h =
      (le-div_iff_mul-le pos).1 (let f = mul-suc v b in let g = mul_comm (suc b) v in let s = add-one b in rw s (omega arith))

  -- the last power of y of a degree
  last_power : (x b d : ℕ) → x + v * b ≡ d → x < v → b ≤ d / v → b ≡ d / v
  last_power x b d e h l =
      let f : d / v < suc b = (div-lt_iff_lt-mul pos).1 (let g = mul-suc v b in let s = mul_comm (suc b) v in omega arith) in
      omega arith

  -- a step leads to the next place
  stands_next : (k : ℕ) (p : Place) → Stands k p → Stands (k + 1) (next_place v p)
  stands_next k p s =
      elim (dec_lt p.0 v) [
        | yes h ↦
            subst (Stands (k + 1)) (sym (turns v p h))
            (record {
              place = let e = lower_more v p.2 in let l = last_power p.0 p.1 p.2 s.rest h s.power in let t = s.place in let a = add-one p.2 in rw a (omega arith);
              power = omega arith;
              rest = let z = mul-zero v in omega arith;
            })
        | no n ↦
            subst (Stands (k + 1)) (sym (stays v p (omega arith)))
            (record {
              place = let t = s.place in omega arith;
              power = room p.0 p.1 p.2 s.rest (omega arith);
              rest = let f = mul-suc v p.1 in let a = add-one p.1 in let t = s.rest in rw a (omega arith);
            })
      ]

  -- so after every number of steps
  stands : (k : ℕ) → Stands k (walked v k)
  stands zero =
      subst (Stands 0) (sym (walked_zero v))
      (record { place = let e = none_lower v in omega arith; power = omega arith; rest = let z = mul-zero v in omega arith })
  stands (suc k) =
      subst (λ (n : ℕ). Stands n (walked v n)) (add-one k)
      (subst (Stands (k + 1)) (sym (walked_suc v k)) (stands_next k (walked v k) (stands k)))

  -- no power is above the number of steps
  pub walked_le : (k : ℕ) → ((walked v k).0 ≤ k) × ((walked v k).1 ≤ k) × ((walked v k).2 ≤ k)
  walked_le k =
      let s = stands k in
      let d = degree_le v (walked v k).2 in
      let q = div-le_self (walked v k).2 v in
      let a = s.place in let b = s.power in let e = s.rest in
      (omega arith, omega arith, omega arith)

  module _ (D k : ℕ) (h : k < count v D) where
    -- place k is one of the count
    counted : k < earlier v (suc D)
    counted = rw (← add-one D, (monomials_in_order v pos D).size) h

    -- its degree is at most D
    degree_within : (walked v k).2 ≤ D
    degree_within =
        elim (dec_lt D (walked v k).2) [
          | yes l ↦
              let s = (stands k).place in
              let m = lower_grows v (suc D) (walked v k).2 l in
              let c = counted in
              let z : ⊥ = omega arith in absurd z
          | no n ↦ omega arith
        ]

    -- the power of x is at most D
    pub x_within : (walked v k).0 < D + 1
    x_within = let d = degree_within in let s = (stands k).rest in omega arith

    -- and that of y at most D/v
    pub y_within : (walked v k).1 < D / v + 1
    y_within =
        let d = degree_within in
        let s = (stands k).power in
        let f = degree_grows v (walked v k).2 D pos d in
        omega arith

    -- the monomial of place k
    pub walked_monomial : get_or (monomials v D) k (0, 0) ≡ ((walked v k).0, (walked v k).1)
    walked_monomial =
        let s = stands k in
        let l : (walked v k).1 < (walked v k).2 / v + 1 = (let p = s.power in omega arith) in
        let x : (walked v k).2 - v * (walked v k).1 ≡ (walked v k).0 = (let r = s.rest in omega arith) in
        ap₂ (λ (n j : ℕ). get_or (flat_map (monomials_of v) (below n)) j (0, 0)) (add-one D) s.place
        ∙ monomial_at v D (walked v k).2 (walked v k).1 degree_within l ∙ ap (λ (n : ℕ). (n, (walked v k).1)) x
