-- Entries that are written in place: bytes laid over zeros.
-- Assumes nothing.
use mathlib.Core.List.{List, ◌++◌, append-nil}
use mathlib.Core.Path.{◌≡◌, sym, ◌∙◌, ap}
use Prim.Native.Nat.{ℕ, ◌+◌}
use native.Mathlib.Omega.{arith}
use lib.ListN.{length, drop, replicate, length-append, length-replicate, replicate-append-replicate, drop_of_length-le}
use lib.Seq.{drop_at}
use Rattle.definitions.specs.Field.{Code}
use Rattle.definitions.specs.Held.{places, no_entries, filled}
use Rattle.memory.proofs.Laid.{laid_behind, laid_front}
use Rattle.memory.specs.Laid.{laid}

-- zeros behind bytes are those of their record
pub zeros_behind : (C : Code) (bytes : List ℕ) (many : ℕ) → length bytes + many ≡ places C → replicate many 0 ≡ drop (length bytes) (no_entries C)
zeros_behind C bytes many room =
    sym
    (ap (λ (n : ℕ). drop (length bytes) (replicate n 0)) (sym room) ∙ ap (drop (length bytes)) (sym (replicate-append-replicate (length bytes) many 0))
    ∙ drop_at (replicate (length bytes) 0) (replicate many 0) (length bytes) (length-replicate (length bytes) 0))

-- bytes with zeros behind them are the entries of their record
pub laid_filled : (C : Code) (out bytes first now : List ℕ) (many : ℕ) → length out ≡ places C → length bytes + many ≡ places C → first ≡ laid out 0 bytes
    → now ≡ laid first (length bytes) (replicate many 0) → now ≡ filled C bytes
laid_filled C out bytes first now many size room e cleared =
    let whole : length (bytes ++ replicate many 0) ≡ places C =
    length-append bytes (replicate many 0) ∙ ap (λ (n : ℕ). length bytes + n) (length-replicate many 0) ∙ room in
    cleared ∙ ap (λ (l : List ℕ). laid l (length bytes) (replicate many 0)) e ∙ laid_behind out 0 bytes (replicate many 0) (length bytes) (omega arith) (omega arith)
    ∙ laid_front out (bytes ++ replicate many 0) (places C) whole
    ∙ ap (λ (l : List ℕ). bytes ++ replicate many 0 ++ l) (drop_of_length-le out {i = places C} (omega arith)) ∙ append-nil (bytes ++ replicate many 0)
    ∙ ap (λ (l : List ℕ). bytes ++ l) (zeros_behind C bytes many room)

-- zeros laid over all entries are those of a fresh record
pub laid_fresh : (C : Code) (out now : List ℕ) → length out ≡ places C → now ≡ laid out 0 (replicate (length out) 0) → now ≡ no_entries C
laid_fresh C out now size cleared =
    cleared ∙ ap (λ (n : ℕ). laid out 0 (replicate n 0)) size ∙ laid_front out (no_entries C) (places C) (length-replicate (places C) 0)
    ∙ ap (λ (l : List ℕ). no_entries C ++ l) (drop_of_length-le out {i = places C} (omega arith)) ∙ append-nil (no_entries C)
