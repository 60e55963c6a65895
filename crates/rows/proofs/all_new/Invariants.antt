use Rattle.std.proofs.Common.{◌≡◌, ℕ, ◌<◌, true}
use Rattle.rows.specs.Rows.{is_new}
use Rattle.rows.proofs.all_new.Given as goal

-- Each row before row j is new.
abbrev pub invariant-loop-j : goal.invariant-loop-j
invariant-loop-j l = (i : ℕ) → i < l.j → is_new l.k l.rows i ≡ true
