-- The tables' rules: one test that is computed over a whole table is carried to every entry.
-- Assumes nothing.
use mathlib.Core.Bool.{Bool, ◌||◌}
use mathlib.Core.List.{List}
use Prim.Native.Nat.{ℕ, ◌+◌, ◌*◌, ◌≤◌, ◌<◌}
use native.Mathlib.Nat.{mul_comm}
use native.Mathlib.Omega.{arith}
use borrow.Author.Tests.{ne_eqb}
use lib.Dec.{T, eqb, eqb→eq}
use lib.ListN.{get_or}
use Rattle.algebra.proofs.Tests.{every, every_pair, every_at, every_pair_at}
use Rattle.definitions.proofs.Loops.{row_within}
use Rattle.definitions.specs.Field.{Code, inverse_of}
use Rattle.tables.specs.Table.{Products, Inverses}

-- each entry is the product of its row and its column
abbrev pub products_right : Code → List ℕ → Bool
products_right C t = every_pair C.symbols (λ a b. eqb (get_or t (a * C.symbols + b) 0) (C.times a b))

pub products_right_lem : (C : Code) (t : List ℕ) → T (products_right C t) → Products C t
unfolding Products
products_right_lem C t right a b ha hb = eqb→eq _ _ (every_pair_at C.symbols (λ a b. eqb (get_or t (a * C.symbols + b) 0) (C.times a b)) right a b ha hb)

-- each entry but the first is the inverse of its place
abbrev pub inverses_right : Code → List ℕ → Bool
inverses_right C t = every C.symbols (λ a. eqb a 0 || eqb (get_or t a 0) (inverse_of C a))

pub inverses_right_lem : (C : Code) (t : List ℕ) → T (inverses_right C t) → Inverses C t
unfolding Inverses
inverses_right_lem C t right a h nonzero =
    eqb→eq _ _ (rw (ne_eqb a 0 nonzero) at (every_at C.symbols (λ a. eqb a 0 || eqb (get_or t a 0) (inverse_of C a)) right a h))

-- the row of a symbol lies within the table
pub row_below : (q a : ℕ) → a < q → a * q + q ≤ q * q
row_below q a h = let r = row_within q a q (q * q) h (omega arith) in let e = mul_comm a q in omega arith
