use Rattle.std.proofs.Common.{◌≡◌, ℕ, ◌+◌, ◌-◌, ◌*◌, ◌≤◌}
use Rattle.definitions.specs.Tools.{sum}
use Rattle.bound.proofs.count.Given as goal

-- The total is the page's sum over the powers of y below b, and small enough for the next addition.
abbrev pub invariant-loop-b : goal.invariant-loop-b
invariant-loop-b l = (l.total ≡ sum l.b (λ (j : ℕ). l.d + 1 - l.v * j)) × (l.total ≤ l.b * 65536)
