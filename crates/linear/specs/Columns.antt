-- A step of the elimination, done in some columns only: what it makes of one column, and which rows it is made in.
-- A matrix is a function of row and column, a column one of the row.
-- Assumes nothing.
use Rattle.std.specs.Prelude.{◌≢◌, ◌≡◌, ℕ, ◌≤◌, ◌<◌}
use Rattle.definitions.specs.Field.{Ops, Code}

-- each column of b from `from` to before `to` is related to that of m, and every other column stays
pub record Between {K : Type 0} (P : (ℕ → K) → (ℕ → K) → Type 0) (from to : ℕ) (m b : ℕ → ℕ → K) : Type 0 where
  pub inside : (k : ℕ) → from ≤ k → k < to → P (λ t. m t k) (λ t. b t k)
  pub before : (k : ℕ) → k < from → (t : ℕ) → b t k ≡ m t k
  pub after : (k : ℕ) → to ≤ k → (t : ℕ) → b t k ≡ m t k

module _ (A : Ops) where
  -- rows r and j of a column change places, and the one that comes to j is scaled by u
  pub record Exchanged (r j : ℕ) (u : A.K) (x y : ℕ → A.K) : Type 0 where
    pub pivot : y j ≡ A.mul u (x r)
    pub moved : r ≢ j → y r ≡ x j
    pub others : (t : ℕ) → t ≢ j → t ≢ r → y t ≡ x t

  -- each row t of a column behind j and before R loses c t times row j
  pub record Lowered (R j : ℕ) (c : ℕ → A.K) (x y : ℕ → A.K) : Type 0 where
    pub below : (t : ℕ) → j < t → t < R → y t ≡ A.add (x t) (A.mul (c t) (x j))
    pub above : (t : ℕ) → t ≤ j → y t ≡ x t
    pub beyond : (t : ℕ) → R ≤ t → y t ≡ x t

-- t is one of the first n places
pub record Among (n : ℕ) (places : ℕ → ℕ) (t : ℕ) : Type 0 where
  pub at : ℕ
  pub low : at < n
  pub is : places at ≡ t

-- the first n places are different rows behind j and before R
pub record Targets (R j n : ℕ) (places : ℕ → ℕ) : Type 0 where
  pub behind : (i : ℕ) → i < n → j < places i
  pub within : (i : ℕ) → i < n → places i < R
  pub apart : (i l : ℕ) → i < l → l < n → places i ≢ places l

-- the first n places are the rows behind j and before R where the column x is not zero, and c has its entries there
pub record Listed (R j n : ℕ) (x places c : ℕ → ℕ) : Type 0 where
  pub behind : (i : ℕ) → i < n → j < places i
  pub within : (i : ℕ) → i < n → places i < R
  pub factor : (i : ℕ) → i < n → c i ≡ x (places i)
  pub nonzero : (i : ℕ) → i < n → x (places i) ≢ 0
  pub apart : (i l : ℕ) → i < l → l < n → places i ≢ places l
  pub all : (t : ℕ) → j < t → t < R → x t ≢ 0 → Among n places t

-- in the columns from `from` to before `to`, each of the first n places has lost its factor times row j; all else stays
pub record Done (C : Code) (from to j n : ℕ) (places c : ℕ → ℕ) (m b : ℕ → ℕ → ℕ) : Type 0 where
  pub done : (i : ℕ) → i < n → (k : ℕ) → from ≤ k → k < to → b (places i) k ≡ C.plus (m (places i) k) (C.times (c i) (m j k))
  pub rest : (t : ℕ) → (Among n places t → ⊥) → (k : ℕ) → b t k ≡ m t k
  pub before : (k : ℕ) → k < from → (t : ℕ) → b t k ≡ m t k
  pub after : (k : ℕ) → to ≤ k → (t : ℕ) → b t k ≡ m t k
