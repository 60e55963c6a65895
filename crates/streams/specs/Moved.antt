-- What is told of bytes that were read or written: how many they are, and where a reader's or a writer's bytes are known, which.
-- Assumes nothing.
use Rattle.std.specs.Prelude.{List, ℕ, ◌≡◌, ◌<◌, Option, Result, IfOk, MatchResult, length, take}
use Rattle.io.specs.Counts.{IsPrefixLen}
use Rattle.std.specs.Io.KnownBytes.{Appends, Consumes, IsAtEnd, Keeps}

-- the bytes that are told are within the memory that they were moved from or to
abbrev pub Within : {E : Type 0} → Result ℕ E → List ℕ → Type 0
Within r buf = IfOk r (λ n. IsPrefixLen n buf)

-- One call moves to buf what the reader has next, and nothing only at the end or with no room. A call that fails takes nothing.
abbrev pub ReadsSome : {E : Type 0} → Option (List ℕ) → Option (List ℕ) → Result ℕ E → List ℕ → Type 0
ReadsSome old new r buf = MatchResult r (λ n. Consumes old new (take n buf) × (n ≡ 0 → 0 < length buf → IsAtEnd new)) (λ _. Keeps old new)

-- The reader's next bytes are in front of buf, and where buf is not full the reader has no more.
abbrev pub ReadsFull : {E : Type 0} → Option (List ℕ) → Option (List ℕ) → Result ℕ E → List ℕ → Type 0
ReadsFull old new r buf = IfOk r (λ n. Consumes old new (take n buf) × (n < length buf → IsAtEnd new))

-- One call adds the front of buf to what the writer holds. A call that fails adds nothing.
abbrev pub WritesSome : {E : Type 0} → Option (List ℕ) → Option (List ℕ) → Result ℕ E → List ℕ → Type 0
WritesSome old new r buf = MatchResult r (λ n. Appends old new (take n buf)) (λ _. Keeps old new)
