-- What one call read stands behind what was read before, in the memory as in what the reader gave.
use Rattle.std.proofs.Common.{◌≡◌, ℕ, ◌+◌, ◌-◌, ◌≤◌, List, ◌++◌, rules, length, take, sym, ap, ◌∙◌, subst, length-take-le}
use Rattle.std.specs.Io.KnownBytes.{Consumes}
use Rattle.std.proofs.KnownBytes.{Consumes-trans}
use borrow.Rule.Slice.PartMut.{put_mid, post_of}
use lib.Seq.{take-append-add, take-append-le}
use Rattle.streams.proofs.read_full.Goals as goal

-- the front of the memory, of which the part from a on was lent and n bytes were read into it
joined : (a k n : ℕ) (buf part : List ℕ) → a ≤ length buf → n ≤ length part → take a buf ++ take n part ≡ take (a + n) (put_mid a k buf part)
joined a k n buf part within fits =
    let after = post_of a k buf in
    ap (λ bytes. take a buf ++ bytes) (sym (take-append-le n part after fits)) ∙ sym (take-append-add (take a buf) (part ++ after) n)
    ∙ ap (λ m. take (m + n) (put_mid a k buf part)) (length-take-le a buf within)

-- the bytes of one call more
pub loop-done-preserved : goal.loop-done-preserved
loop-done-preserved g c =
    let l = c.loop-done in
    let both = Consumes-trans _ _ _ _ _ l.invariant.bytes c.in_ok-more.ensures.bytes.0 in
    let front = joined l.done (length l.buf - l.done) c.in_ok-more.more l.buf c.read_some.new.buf l.invariant.within c.in_ok-more.ensures.within.0 in
    record { within = search rules; bytes = subst (Consumes _ _) front both }
