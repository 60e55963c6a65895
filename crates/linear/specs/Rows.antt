-- Lists of rows of symbols: their solutions, the triangle that elimination makes of them, and back substitution.
-- Assumes nothing.
use Rattle.std.specs.Prelude.{cond, List, [], ◌≡◌, ℕ, zero, suc, ◌≤◌, ◌<◌, ltb, length, get_or}
use Rattle.algebra.specs.Dot.{dot}
use Rattle.algebra.specs.Grid.{entry_of}
use Rattle.definitions.specs.Code.{Symbols}
use Rattle.definitions.specs.Field.{Ops, Code, numbers}

module _ (C : Code) where
  -- every entry of every row is a symbol
  abbrev pub SymbolRows : List (List ℕ) → Type 0
  SymbolRows m = (r : ℕ) → Symbols C (get_or m r [])

  -- each of the first `rows` rows, over the first w columns, times q is zero
  abbrev pub Solves : ℕ → ℕ → List (List ℕ) → List ℕ → Type 0
  Solves rows w m q = (r : ℕ) → r < rows → dot (numbers C) w (entry_of m r) (λ k. get_or q k 0) ≡ 0

  -- what solves one list of rows solves the other
  abbrev pub SameSolutions : ℕ → ℕ → List (List ℕ) → List (List ℕ) → Type 0
  SameSolutions rows w m b =
      (q : List ℕ) → Symbols C q → (Solves rows w m q → Solves rows w b q) × (Solves rows w b q → Solves rows w m q)

-- each column before j is 1 in its own row and 0 in every row below
abbrev pub Triangle : ℕ → ℕ → List (List ℕ) → Type 0
Triangle rows j m = (k : ℕ) → k < j → (entry_of m k k ≡ 1) × ((r : ℕ) → k < r → r < rows → entry_of m r k ≡ 0)

-- and column j depends on those before it: it has no pivot
abbrev pub Reduced : ℕ → ℕ → List (List ℕ) → Type 0
Reduced rows j m = Triangle rows j m × ((r : ℕ) → j ≤ r → r < rows → entry_of m r j ≡ 0)

-- y and the sum of r k q k over the k behind s and below n
unfoldable pub behind : (A : Ops) → A.K → ℕ → ℕ → (ℕ → A.K) → (ℕ → A.K) → A.K
behind A y s zero r q = y
behind A y s (suc n) r q = cond (ltb s n) (A.add (behind A y s n r q) (A.mul (r n) (q n))) y

-- back substitution: each entry before j is what its row makes of those behind it, with 1 at j
abbrev pub Back : Code → ℕ → List (List ℕ) → List ℕ → Type 0
Back C j m q = (s : ℕ) → s < j → get_or q s 0 ≡ behind (numbers C) (entry_of m s j) s j (entry_of m s) (λ k. get_or q k 0)

-- the entries from s on and before j are found by back substitution, those from j on stay
pub record Solved (C : Code) (j s : ℕ) (m : List (List ℕ)) (old new : List ℕ) : Type 0 where
  pub size : length new ≡ length old
  pub back : (k : ℕ) → s ≤ k → k < j → get_or new k 0 ≡ behind (numbers C) (entry_of m k j) k j (entry_of m k) (λ i. get_or new i 0)
  pub rest : (k : ℕ) → j ≤ k → get_or new k 0 ≡ get_or old k 0

-- 1 is put at place j, and zeros behind it and before count; the rest stays
pub record Led (j count : ℕ) (old new : List ℕ) : Type 0 where
  pub size : length new ≡ length old
  pub one : get_or new j 0 ≡ 1
  pub zeros : (k : ℕ) → j < k → k < count → get_or new k 0 ≡ 0
  pub kept : (k : ℕ) → count ≤ k → get_or new k 0 ≡ get_or old k 0
