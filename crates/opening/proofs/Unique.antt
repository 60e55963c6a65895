-- Where a part lies, and what it holds, tell it.
-- Assumes nothing.
use mathlib.Core.List.{List}
use mathlib.Core.Path.{◌≡◌, sym, ◌∙◌, ap}
use Prim.Native.Nat.{ℕ}
use denote.Ref.{Bor}
use Rattle.opening.specs.Handing.{Part, part_at}

pub one_part : (x y : Bor (List ℕ)) (p : Part) → part_at x ≡ p → part_at y ≡ p → (x.ref_ptr ≡ y.ref_ptr) × (x.now ≡ y.now)
one_part x y p e f = (ap (λ (p : Part). p.0) (e ∙ sym f), ap (λ (p : Part). p.1) (e ∙ sym f))
