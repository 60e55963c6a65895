-- The loop of back substitution, from the last entry to the first, and the coefficients that it leaves at the front of a list.
-- Assumes nothing.
use mathlib.Core.List.{List, ◌++◌}
use mathlib.Core.Path.{◌≡◌, refl, sym, ◌∙◌, ap}
use Prim.Native.Nat.{ℕ, suc, ◌+◌, ◌≤◌, ◌<◌}
use native.Mathlib.Decide.{ℕ_discrete, dec_lt}
use native.Mathlib.Omega.{arith}
use lib.ListN.{length, get_or, set, take, drop, length-set, length-drop, take-append-drop, get_or-eq_default}
use lib.Seq.{length-take-le, get_or-set_same, get_or-set_other, get_or-take, get_or-drop, ext_get_or}
use Rattle.algebra.specs.Grid.{entry_of}
use Rattle.definitions.specs.Field.{Code, numbers}
use Rattle.linear.proofs.Triangle.{behind_equal}
use Rattle.linear.specs.Rows.{behind, Back, Solved, Led}

module _ (C : Code) (j : ℕ) (m : List (List ℕ)) where
  -- no entry is found yet
  pub solved_none : (old : List ℕ) → Solved C j j m old old
  solved_none old = record { size = refl; back = λ k l h. let z : ⊥ = omega arith in absurd z; rest = λ k h. refl }

  -- one entry more
  pub solved_more : (s y : ℕ) (old now : List ℕ) → s < j → j ≤ length old → Solved C j (suc s) m old now
      → y ≡ behind (numbers C) (entry_of m s j) s j (entry_of m s) (λ i. get_or now i 0) → Solved C j s m old (set now s y)
  solved_more s y old now h room d is = record {
    size = length-set now s y ∙ d.size;
    back = λ k l g. elim (ℕ_discrete k s) [
      | yes e ↦ ap (λ (i : ℕ). get_or (set now s y) i 0) e ∙ get_or-set_same now s y 0 (let f = d.size in omega arith) ∙ is ∙ later s (omega arith)
          ∙ ap (λ (i : ℕ). behind (numbers C) (entry_of m i j) i j (entry_of m i) (λ i. get_or (set now s y) i 0)) (sym e)
      | no e ↦ get_or-set_other now s k y 0 e ∙ d.back k (omega arith) g ∙ later k (omega arith)
    ];
    rest = λ k l. get_or-set_other now s k y 0 (λ e. omega arith) ∙ d.rest k l;
  }
    where
      later : (k : ℕ) → s ≤ k
          → behind (numbers C) (entry_of m k j) k j (entry_of m k) (λ i. get_or now i 0) ≡ behind (numbers C) (entry_of m k j) k j (entry_of m k) (λ i. get_or (set now s y) i 0)
      later k l =
          behind_equal (numbers C) (entry_of m k j) k j (entry_of m k) (entry_of m k) (λ i. get_or now i 0) (λ i. get_or (set now s y) i 0) (λ i _ _. refl)
          (λ i g _. sym (get_or-set_other now s i y 0 (λ e. omega arith)))

  -- out was led by 1 at j and zeros behind it, up to count
  module _ (count : ℕ) (out led new : List ℕ) (low : j < count) (room : count ≤ length out) (l : Led j count out led) (d : Solved C j 0 m led new) where
    -- the coefficients
    abbrev coefficients : List ℕ
    coefficients = take count new

    -- they are so many
    pub coefficients_size : length coefficients ≡ count
    coefficients_size = length-take-le count new (let e = d.size in let f = l.size in omega arith)

    -- each before j is found by back substitution
    pub coefficients_back : Back C j m coefficients
    coefficients_back s h =
        get_or-take count new s 0 (omega arith) ∙ d.back s (omega arith) h
        ∙ behind_equal (numbers C) (entry_of m s j) s j (entry_of m s) (entry_of m s) (λ i. get_or new i 0) (λ i. get_or coefficients i 0) (λ i _ _. refl)
        (λ i _ g. sym (get_or-take count new i 0 (omega arith)))

    -- the one at j is 1
    pub coefficients_one : get_or coefficients j 0 ≡ 1
    coefficients_one = get_or-take count new j 0 low ∙ d.rest j (omega arith) ∙ l.one

    -- those after it are zero
    pub coefficients_end : (k : ℕ) → j < k → get_or coefficients k 0 ≡ 0
    coefficients_end k h =
        elim (dec_lt k count) [
          | yes g ↦ get_or-take count new k 0 g ∙ d.rest k (omega arith) ∙ l.zeros k h g
          | no g ↦ get_or-eq_default coefficients 0 {n = k} (let e = coefficients_size in omega arith)
        ]

    -- and past them the list stays
    pub coefficients_written : new ≡ coefficients ++ drop count out
    coefficients_written = sym (take-append-drop count new) ∙ ap (λ (x : List ℕ). coefficients ++ x) past
      where
        past : drop count new ≡ drop count out
        past =
            ext_get_or 0 (drop count new) (drop count out)
            (let a = length-drop count new in let b = length-drop count out in let e = d.size in let f = l.size in omega arith)
            (λ i h. get_or-drop count new i 0 ∙ d.rest (count + i) (omega arith) ∙ l.kept (count + i) (omega arith) ∙ sym (get_or-drop count out i 0))
