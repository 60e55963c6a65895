-- The step of the loop over weights, and what the lines of a table say of the cost of entries.
-- Assumes nothing.
use mathlib.Core.Bool.{false}
use mathlib.Core.List.{List, ◌++◌}
use mathlib.Core.Path.{◌≡◌, sym, ◌∙◌, ap}
use Prim.Native.Nat.{ℕ, ◌+◌, ◌≤◌, ◌<◌}
use native.Mathlib.Numerals.{add-one}
use native.Mathlib.Omega.{arith}
use lib.ListN.{length, take, drop, get_or, set, length-map}
use lib.Seq.{length-take-le}
use Rattle.alphabet.proofs.Sizes.{sized}
use Rattle.alphabet.specs.Codes.{code_on}
use Rattle.alphabet.specs.declared.Alphabet.{Alphabet}
use Rattle.definitions.proofs.Loops.{put_more}
use Rattle.definitions.proofs.Table.{above_means}
use Rattle.definitions.proofs.Weights.{map_take}
use Rattle.definitions.specs.Held.{places}
use Rattle.definitions.specs.Limits.{greatest_level}
use Rattle.definitions.specs.Refusals.{entries_of}
use Rattle.definitions.specs.Weights.{multiplicity, matrix, cost}
use Rattle.matrix.proofs.Columns.{places_within, cost_small}

-- one multiplicity more is written
pub multiplicity_more : (L : ℕ) (r out now : List ℕ) (i x : ℕ) → i < length r → i < length out → now ≡ matrix L (take i r) ++ drop i out
    → x ≡ multiplicity L (get_or r i 0) → set now i x ≡ matrix L (take (i + 1) r) ++ drop (i + 1) out
multiplicity_more L r out now i x hr ho e ex =
    rw (e, ex)
    (put_more 0 (matrix L (take i r)) out i (multiplicity L (get_or r i 0)) (length-map (take i r) (multiplicity L) ∙ length-take-le i r (omega arith)) ho
    ∙ ap (λ (l : List ℕ). l ++ drop (i + 1) out) (sym (map_take (multiplicity L) r i hr) ∙ ap (λ (n : ℕ). matrix L (take n r)) (sym (add-one i))))

-- entries that pass their line cost no more than the bound is asked for
pub cost_fits : (w : Alphabet) (m : List ℕ) → length m ≤ places (code_on w) → (entries_of m).given ≡ false → cost m < 65536
cost_fits w m within low =
    let z = sized w in
    let most = places_within w in
    let small = cost_small (code_on w) m within (above_means greatest_level m low) in
    omega arith
