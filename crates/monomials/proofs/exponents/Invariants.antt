use Rattle.std.proofs.Common.{◌≡◌, ℕ}
use Rattle.blocks.proofs.Filled.{Filling}
use Rattle.monomials.specs.Walk.{walked}
use Rattle.monomials.proofs.exponents.Given as goal

-- x, y and degree are where the walk stands after so many steps, and the rows hold the powers of the places before.
abbrev pub invariant-loop-step : goal.invariant-loop-step
invariant-loop-step l =
    record {
      x : l.x ≡ (walked l.v l.step).0;
      y : l.y ≡ (walked l.v l.step).1;
      degree : l.degree ≡ (walked l.v l.step).2;
      xs : Filling l.count l.step (λ (k : ℕ). (walked l.v k).0) l.xs;
      ys : Filling l.count l.step (λ (k : ℕ). (walked l.v k).1) l.ys;
    }
