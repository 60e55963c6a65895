-- The steps of loading a list of coefficients, degree by degree.
-- Assumes nothing.
use mathlib.Core.List.{List, [], ◌∷◌, ◌++◌, map}
use mathlib.Core.Path.{◌≡◌, refl, sym, ◌∙◌, ap, ap₂}
use Prim.Native.Nat.{ℕ, suc, ◌+◌, ◌-◌, ◌*◌, ◌/◌, ◌≤◌, ◌<◌}
use native.Mathlib.Nat.{suc_inj, suc-ne-zero}
use native.Mathlib.Numerals.{add-one}
use native.Mathlib.Omega.{arith}
use lib.ListN.{length, get_or, take, drop, set, length-drop}
use lib.Seq.{get_or-drop, take-suc, take-add, take_all, length-take-le}
use Rattle.definitions.proofs.Joined.{join_below}
use Rattle.definitions.proofs.Monomials.{monomials_in_order, lower, lower_more, lower_grows}
use Rattle.definitions.proofs.Tools.{length_map_below, map_below}
use Rattle.definitions.specs.Bound.{count}
use Rattle.definitions.specs.Field.{Code, numbers}
use Rattle.definitions.specs.Polynomial.{monomials_of, monomials}
use Rattle.definitions.specs.Tools.{below}
use Rattle.root_tree.specs.Columns.{loaded}

-- the first b monomials of weighted degree d
abbrev pub some : ℕ → ℕ → ℕ → List (ℕ × ℕ)
some v d b = map (λ (b : ℕ). (d - v * b, b)) (below b)

module _ (C : Code) (h : ℕ) where
  -- one list loaded after another
  loaded_append : (q : List ℕ) (L : List (ℕ × ℕ)) (q' : List ℕ) (L' : List (ℕ × ℕ)) (l : List ℕ) → length q ≡ length L
      → loaded (numbers C) h (q ++ q') (L ++ L') l ≡ loaded (numbers C) h q' L' (loaded (numbers C) h q L l)
  unfolding loaded
  loaded_append [] [] q' L' l e = refl
  loaded_append [] (m ∷ L) q' L' l e = absurd (suc-ne-zero (length L) (sym e))
  loaded_append (c ∷ q) [] q' L' l e = absurd (suc-ne-zero (length q) e)
  loaded_append (c ∷ q) (m ∷ L) q' L' l e = loaded_append q L q' L' (set l (m.0 * h + m.1) c) (suc_inj e)

  -- one coefficient
  loaded_one : (c : ℕ) (m : ℕ × ℕ) (l : List ℕ) → loaded (numbers C) h (c ∷ []) (m ∷ []) l ≡ set l (m.0 * h + m.1) c
  unfolding loaded
  loaded_one c m l = refl

  -- none
  loaded_none : (L : List (ℕ × ℕ)) (l : List ℕ) → loaded (numbers C) h [] L l ≡ l
  unfolding loaded
  loaded_none L l = refl

  -- before the first coefficient of a degree
  pub degree_none : (v d j : ℕ) (q l : List ℕ) → l ≡ loaded (numbers C) h (take 0 (drop j q)) (some v d 0) l
  degree_none v d j q l = sym (loaded_none (some v d 0) l)

  -- one coefficient more
  pub degree_more : (v d j b : ℕ) (q l now : List ℕ) → j + b < length q → now ≡ loaded (numbers C) h (take b (drop j q)) (some v d b) l
      → set now ((d - v * b) * h + b) (get_or q (j + b) 0) ≡ loaded (numbers C) h (take (b + 1) (drop j q)) (some v d (b + 1)) l
  degree_more v d j b q l now k e =
      let n = length-drop j q in
      let m : length (take b (drop j q)) ≡ length (some v d b) =
      length-take-le b (drop j q) (omega arith) ∙ sym (length_map_below (λ (b : ℕ). (d - v * b, b)) b) in
      ap₂ (λ (x : List ℕ) (c : ℕ). set x ((d - v * b) * h + b) c) e (sym (get_or-drop j q b 0))
      ∙ sym (loaded_one (get_or (drop j q) b 0) (d - v * b, b) (loaded (numbers C) h (take b (drop j q)) (some v d b) l))
      ∙ sym (loaded_append (take b (drop j q)) (some v d b) (get_or (drop j q) b 0 ∷ []) ((d - v * b, b) ∷ []) l m)
      ∙ ap₂ (λ (x : List ℕ) (y : List (ℕ × ℕ)). loaded (numbers C) h x y l) (sym (take-suc (drop j q) b 0 (omega arith))) (sym (map_below (λ (b : ℕ). (d - v * b, b)) b))
      ∙ ap (λ (n : ℕ). loaded (numbers C) h (take n (drop j q)) (some v d n) l) (sym (add-one b))

  -- the last coefficient of a degree
  pub degree_last : (v d j b : ℕ) (q l now : List ℕ) → j + b < length q → now ≡ loaded (numbers C) h (take b (drop j q)) (some v d b) l → b ≡ d / v
      → set now ((d - v * b) * h + b) (get_or q (j + b) 0) ≡ loaded (numbers C) h (take (d / v + 1) (drop j q)) (monomials_of v d) l
  degree_last v d j b q l now k e end =
      degree_more v d j b q l now k e ∙ ap (λ (n : ℕ). loaded (numbers C) h (take (n + 1) (drop j q)) (some v d (n + 1)) l) end

module _ (v : ℕ) (pos : 0 < v) (D : ℕ) (q : List ℕ) (full : length q ≡ count v D) where
  -- all coefficients are of weighted degree at most D
  size : length (monomials v D) ≡ length q
  size = (monomials_in_order v pos D).size ∙ sym full

  -- the coefficients of degree d are there
  pub degree_within : (d : ℕ) → d ≤ D → length (lower v d) + (d / v + 1) ≤ length q
  degree_within d l = let a = lower_grows v (suc d) (D + 1) (omega arith) in let b = lower_more v d in let c = size in omega arith

-- so many coefficients are of degree at most d
pub counted_more : (v d j : ℕ) → j ≡ length (lower v d) → j + (d / v + 1) ≡ length (lower v (d + 1))
counted_more v d j e = ap (λ (n : ℕ). n + (d / v + 1)) e ∙ sym (lower_more v d) ∙ ap (λ (n : ℕ). length (lower v n)) (sym (add-one d))

module _ (C : Code) (v : ℕ) (pos : 0 < v) (D : ℕ) (q : List ℕ) (full : length q ≡ count v D) (h : ℕ) (zs : List ℕ) where
  -- before the first degree
  pub load_none : zs ≡ loaded (numbers C) h (take 0 q) (lower v 0) zs
  load_none = sym (loaded_none C h (lower v 0) zs)

  module _ (d j : ℕ) (p r : List ℕ) (within : d ≤ D) (ej : j ≡ length (lower v d)) (ep : p ≡ loaded (numbers C) h (take j q) (lower v d) zs)
      (er : r ≡ loaded (numbers C) h (take (d / v + 1) (drop j q)) (monomials_of v d) p) where
    -- one degree more
    pub load_more : r ≡ loaded (numbers C) h (take (j + (d / v + 1)) q) (lower v (d + 1)) zs
    load_more =
        let w = degree_within v pos D q full d within in
        er ∙ ap (loaded (numbers C) h (take (d / v + 1) (drop j q)) (monomials_of v d)) ep
        ∙ sym (loaded_append C h (take j q) (lower v d) (take (d / v + 1) (drop j q)) (monomials_of v d) zs (length-take-le j q (omega arith) ∙ ej))
        ∙ ap₂ (λ (x : List ℕ) (y : List (ℕ × ℕ)). loaded (numbers C) h x y zs) (sym (take-add j (d / v + 1) q))
        (sym (join_below (monomials_of v) d) ∙ ap (lower v) (sym (add-one d)))

    -- the last degree
    pub load_last : d ≡ D → r ≡ loaded (numbers C) h q (monomials v D) zs
    load_last ed =
        let s = size v pos D q full in
        let m : lower v (d + 1) ≡ monomials v D = ap (λ (n : ℕ). lower v (n + 1)) ed in
        let f : j + (d / v + 1) ≡ length q = counted_more v d j ej ∙ ap length m ∙ s in
        load_more ∙ ap₂ (λ (x : List ℕ) (y : List (ℕ × ℕ)). loaded (numbers C) h x y zs) (take_all (j + (d / v + 1)) q (omega arith)) m
