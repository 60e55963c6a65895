-- The laws of multiplicities, matrix and cost: of an entry, and for loops over the entries.
-- Assumes nothing.
use mathlib.Core.List.{List, [], ◌∷◌, ◌++◌, map, map-append}
use mathlib.Core.Path.{◌≡◌}
use Prim.Native.Nat.{ℕ, zero, suc, ◌+◌, ◌*◌, ◌/◌, ◌≤◌, ◌<◌}
use native.Mathlib.Nat.{add-zero, add-suc, mul_comm, mul-suc, suc-mul, mul-le-mul, add-mul-div_left}
use native.Mathlib.Omega.{arith}
use lib.ListN.{length, get_or, take, length-map}
use lib.Seq.{take-suc}
use Rattle.definitions.specs.Limits.{greatest_sum}
use Rattle.definitions.specs.Tools.{sum}
use Rattle.definitions.specs.Weights.{multiplicity, matrix, entry_cost}
use Rattle.definitions.proofs.Tools.{sum_bound, map_at}

-- "the whole part of L times the reliability over 4,096"
pub multiplicity_whole : (L r : ℕ) → (multiplicity L r * greatest_sum ≤ L * r) × (L * r < (multiplicity L r + 1) * greatest_sum)
multiplicity_whole L r = omega arith

-- a matrix has an entry for each reliability
pub length_matrix : (L : ℕ) (r : List ℕ) → length (matrix L r) ≡ length r
length_matrix L r = length-map r (multiplicity L)

-- entry i is the multiplicity of reliability i
pub matrix_at : (L : ℕ) (r : List ℕ) (i : ℕ) → i < length r → get_or (matrix L r) i 0 ≡ multiplicity L (get_or r i 0)
matrix_at L r i h = map_at (multiplicity L) r i 0 0 h

-- a map over one entry more
pub map_take : {B : Type 0} (f : ℕ → B) (l : List ℕ) (i : ℕ) → i < length l → map f (take (suc i) l) ≡ map f (take i l) ++ (f (get_or l i 0) ∷ [])
map_take f l i h = rw (take-suc l i 0 h) (map-append f (take i l) (get_or l i 0 ∷ []))

-- "the sum of m(m+1)/2": the entry one greater costs that much more
pub entry_cost_suc : (m : ℕ) → entry_cost (suc m) ≡ entry_cost m + suc m
entry_cost_suc m =
    let d : suc m + 1 ≡ suc (m + 1) = omega arith in
    let b = suc-mul m (suc (m + 1)) in
    let c = mul-suc m (m + 1) in
    let a : suc m * (suc m + 1) ≡ m * (m + 1) + 2 * suc m = rw d (omega arith) in
    rw a (add-mul-div_left (m * (m + 1)) (suc m) {y = 2} (omega arith))

-- a sum costs what both entries cost, and their product
pub entry_cost_sum : (a b : ℕ) → entry_cost (a + b) ≡ entry_cost a + entry_cost b + a * b
entry_cost_sum a zero = let e = mul_comm a 0 in rw (add-zero a) (omega arith)
entry_cost_sum a (suc b) =
    let e = entry_cost_sum a b in
    let f = entry_cost_suc (a + b) in
    let g = entry_cost_suc b in
    let h = mul-suc a b in
    rw (add-suc a b) (omega arith)

-- the cost of the first j entries
abbrev pub cost_of : List ℕ → ℕ → ℕ
cost_of m j = sum j (λ (j : ℕ). get_or m j 0 * (get_or m j 0 + 1) / 2)

-- with entries of at most g the first j, all of them too, cost at most j times g(g+1)/2
pub cost_le : (m : List ℕ) (g : ℕ) → ((i : ℕ) → get_or m i 0 ≤ g) → (j : ℕ) → cost_of m j ≤ j * (g * (g + 1) / 2)
cost_le m g h j =
    sum_bound j (g * (g + 1) / 2) (λ (j : ℕ). get_or m j 0 * (get_or m j 0 + 1) / 2)
    (λ i _. let a = h i in let e : get_or m i 0 * (get_or m i 0 + 1) ≤ g * (g + 1) = mul-le-mul a (omega arith) in omega arith)
