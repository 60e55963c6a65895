-- What one call wrote stands behind what was written before, in the memory as in what the writer has.
use Rattle.std.proofs.Common.{◌≡◌, ℕ, ◌+◌, ◌-◌, List, ◌++◌, rules, length, take, drop, sym, ap, ◌∙◌, subst}
use Rattle.std.proofs.lemmas.List.{take_rest}
use Rattle.std.specs.Io.KnownBytes.{Appends}
use Rattle.std.proofs.KnownBytes.{Appends-trans}
use lib.Seq.{take-add}
use Rattle.streams.proofs.write_all.Goals as goal

-- the front of the memory, of which the part from a on was lent and n bytes of it were written
joined : (a n : ℕ) (xs : List ℕ) → take a xs ++ take n (take (length xs - a) (drop a xs)) ≡ take (a + n) xs
joined a n xs = ap (λ l. take a xs ++ take n l) (take_rest xs a) ∙ sym (take-add a n xs)

-- the bytes of one call more
pub loop-done-preserved : goal.loop-done-preserved
loop-done-preserved g c =
    let both = Appends-trans _ _ _ _ _ c.loop-done.invariant.bytes c.in_ok-taken.ensures.bytes in
    record { within = search rules; bytes = subst (Appends _ _) (joined c.loop-done.done c.in_ok-taken.taken c.args.buf.now) both }
