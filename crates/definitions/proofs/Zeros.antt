-- Lists of zeros.
-- Assumes nothing.
use mathlib.Core.Bool.{true, false, ◌&&◌}
use mathlib.Core.List.{List, [], ◌∷◌}
use mathlib.Core.Path.{◌≡◌, refl}
use Prim.Native.Nat.{ℕ, zero, suc}
use borrow.Author.Tests.{eqb-true}
use lib.Dec.{eqb}
use lib.ListN.{get_or, replicate}
use Rattle.definitions.specs.Polynomial.{is_zero}
use Rattle.definitions.proofs.Tools.{split, both}

-- a list without entries is zero
pub is_zero_nil : is_zero [] ≡ true
unfolding is_zero
is_zero_nil = refl

-- with one entry more that entry is tested besides
pub is_zero_cons : (c : ℕ) (q : List ℕ) → is_zero (c ∷ q) ≡ (eqb c 0 && is_zero q)
unfolding is_zero
is_zero_cons c q = refl

-- every entry of a list that is zero is zero
pub zeros_of_is_zero : (q : List ℕ) → is_zero q ≡ true → (k : ℕ) → get_or q k 0 ≡ 0
unfolding is_zero
zeros_of_is_zero [] e k = refl
zeros_of_is_zero (c ∷ q) e zero = eqb-true c 0 (both (eqb c 0) (is_zero q) e).0
zeros_of_is_zero (c ∷ q) e (suc k) = zeros_of_is_zero q (both (eqb c 0) (is_zero q) e).1 k

-- a list whose entries are all zero is zero
pub is_zero_of_zeros : (q : List ℕ) → ((t : ℕ) → get_or q t 0 ≡ 0) → is_zero q ≡ true
unfolding is_zero
is_zero_of_zeros [] z = refl
is_zero_of_zeros (c ∷ q) z = rw (z zero) (is_zero_of_zeros q (λ t. z (suc t)))

-- with an entry that is not zero the list is not
pub is_zero_false : (q : List ℕ) (k : ℕ) → (get_or q k 0 ≡ 0 → ⊥) → is_zero q ≡ false
is_zero_false q k n = split (is_zero q) (λ e. absurd (n (zeros_of_is_zero q e k))) (λ e. e)

-- n zeros are zero wherever they are read
pub zero_at : (n i : ℕ) → ◌≡◌ {A = ℕ} (get_or (replicate n 0) i 0) 0
zero_at zero i = refl
zero_at (suc n) zero = refl
zero_at (suc n) (suc i) = zero_at n i
