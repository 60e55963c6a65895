-- What holds of a line that is passed.
-- Assumes nothing.
use Rattle.std.specs.Prelude.{◌≡◌, false, Result, Ok, Err, OnOk}
use Rattle.definitions.specs.Refusals.{Line}
use Rattle.refusals.specs.Tries.{Tries}
use Rattle.refusals.specs.declared.Refusal.{Refusal}

-- what is known of a call that passes the line is known where the check lets it pass
pub on_ok : {T P : Type 0} (l : Line) (r : Result T Refusal) → Tries l r → (l.given ≡ false → P) → OnOk r P
on_ok l (Ok _) t p = p t
on_ok l (Err r) t p = tt
