-- What was turned is the front of the entries, and the front is the bytes.
use Rattle.std.proofs.Common.{List, ℕ, ◌≡◌, length, take, refl, ap, subst, ◌∙◌}
use lib.Seq.{take_at}
use Rattle.memory.proofs.Laid.{laid_front}
use Rattle.turning.specs.Turned.{Turned}
use Rattle.turning.proofs.turn.Goals as goal

pub returns : goal.returns
returns c =
    let a = c.args in
    let bytes = a.bytes.now in
    let front : take (length bytes) c.put.new.out ≡ bytes =
    ap (take (length bytes)) (c.put.ensures ∙ laid_front a.entries.now bytes (length bytes) refl) ∙ take_at bytes _ (length bytes) refl in
    subst (λ (b : List ℕ). Turned b c.turn_in_place.result c.turn_in_place.new.entries) front c.turn_in_place.ensures
