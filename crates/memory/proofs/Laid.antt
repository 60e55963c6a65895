-- Lists laid over memory: their length, one entry more, a part that was changed, and one part behind another.
-- Assumes nothing.
use mathlib.Core.List.{List, [], ◌∷◌, ◌++◌, append_assoc, append-nil}
use mathlib.Core.Path.{◌≡◌, sym, ◌∙◌, ap}
use Prim.Native.Nat.{ℕ, ◌+◌, ◌≤◌, ◌<◌}
use native.Mathlib.Nat.{add-zero}
use native.Mathlib.Numerals.{add-one}
use native.Mathlib.Omega.{arith}
use borrow.Rule.Slice.PartMut.{put_mid}
use lib.ListN.{length, take, drop, get_or, set, length-append, length-drop, take-append-drop}
use lib.Seq.{length-take-le, take_at, take-suc, drop-append-add, drop-drop}
use Rattle.definitions.proofs.Loops.{put_more}
use Rattle.memory.specs.Laid.{laid}

-- what lies before the end of the part has its length
length_front : (out : List ℕ) (at : ℕ) (part : List ℕ) → at ≤ length out → length (take at out ++ part) ≡ at + length part
length_front out at part h = length-append (take at out) part ∙ ap (λ (n : ℕ). n + length part) (length-take-le at out h)

-- the memory keeps its length
pub length_laid : (out : List ℕ) (at : ℕ) (part : List ℕ) → at + length part ≤ length out → length (laid out at part) ≡ length out
unfolding laid
length_laid out at part h =
    let front = length_front out at part (omega arith) in
    let rest = length-drop (at + length part) out in
    length-append (take at out ++ part) (drop (at + length part) out) ∙ omega arith

-- what is laid ends within the memory
pub laid_within : (out : List ℕ) (at : ℕ) (part : List ℕ) → at ≤ length out → at + length part ≤ length (laid out at part)
unfolding laid
laid_within out at part h =
    let front = length_front out at part h in
    let size = length-append (take at out ++ part) (drop (at + length part) out) in
    omega arith

-- nothing is laid yet
pub laid_none : (out : List ℕ) (at : ℕ) → out ≡ laid out at []
unfolding laid
laid_none out at = sym (rw (add-zero, append-nil, take-append-drop))

-- one entry more is laid
pub laid_more : (out : List ℕ) (at : ℕ) (part : List ℕ) (x : ℕ) → at + length part < length out
    → set (laid out at part) (at + length part) x ≡ laid out at (part ++ (x ∷ []))
unfolding laid
laid_more out at part x h =
    let size : length (part ++ (x ∷ [])) ≡ length part + 1 = length-append part (x ∷ []) in
    let end : at + length part + 1 ≡ at + length (part ++ (x ∷ [])) = omega arith in
    put_more 0 (take at out ++ part) out (at + length part) x (length_front out at part (omega arith)) h
    ∙ ap (λ (l : List ℕ). l ++ drop (at + length part + 1) out) (append_assoc (take at out) part (x ∷ []))
    ∙ ap (λ (n : ℕ). take at out ++ (part ++ (x ∷ [])) ++ drop n out) end

-- a turn of a loop that lays one entry of a part after the other
pub laid_turned : (out part now : List ℕ) (at j x : ℕ) → at + j < length out → j < length part → now ≡ laid out at (take j part) → x ≡ get_or part j 0
    → set now (at + j) x ≡ laid out at (take (j + 1) part)
laid_turned out part now at j x h l e ex =
    let size : length (take j part) ≡ j = length-take-le j part (omega arith) in
    rw (e, ex, add-one, take-suc part j 0 l)
    (ap (λ (n : ℕ). set (laid out at (take j part)) (at + n) (get_or part j 0)) (sym size) ∙ laid_more out at (take j part) (get_or part j 0) (omega arith))

-- what a part of the memory was changed to is laid there
pub laid_part : (out : List ℕ) (at many : ℕ) (part now : List ℕ) → now ≡ part → many ≡ length part → put_mid at many out now ≡ laid out at part
unfolding laid
laid_part out at many part now same size =
    rw (same, size, drop-drop) (sym (append_assoc (take at out) part (drop (at + length part) out)))

-- one part behind another
laid_laid : (out : List ℕ) (at : ℕ) (u w : List ℕ) → at ≤ length out → laid (laid out at u) (at + length u) w ≡ laid out at (u ++ w)
unfolding laid
laid_laid out at u w h =
    let front = length_front out at u h in
    let both = length-append u w in
    let end : at + length u + length w ≡ at + length (u ++ w) = omega arith in
    let rest : drop (at + length u + length w) (take at out ++ u ++ drop (at + length u) out) ≡ drop (at + length (u ++ w)) out =
    ap (λ (n : ℕ). drop (n + length w) (take at out ++ u ++ drop (at + length u) out)) (sym front)
    ∙ drop-append-add (take at out ++ u) (drop (at + length u) out) (length w)
    ∙ drop-drop (length w) (at + length u) out ∙ ap (λ (n : ℕ). drop n out) end in
    ap (λ (l : List ℕ). l ++ w ++ drop (at + length u + length w) (take at out ++ u ++ drop (at + length u) out))
    (take_at (take at out ++ u) (drop (at + length u) out) (at + length u) front)
    ∙ ap (λ (l : List ℕ). take at out ++ u ++ w ++ l) rest ∙ ap (λ (l : List ℕ). l ++ drop (at + length (u ++ w)) out) (append_assoc (take at out) u w)

pub laid_behind : (out : List ℕ) (at : ℕ) (u w : List ℕ) (end : ℕ) → at ≤ length out → end ≡ at + length u → laid (laid out at u) end w ≡ laid out at (u ++ w)
laid_behind out at u w end h e = ap (λ (n : ℕ). laid (laid out at u) n w) e ∙ laid_laid out at u w h

-- a part in front of the memory
pub laid_front : (out part : List ℕ) (size : ℕ) → length part ≡ size → laid out 0 part ≡ part ++ drop size out
unfolding laid
laid_front out part size e = let whole : 0 + length part ≡ size = omega arith in ap (λ (n : ℕ). part ++ drop n out) whole
