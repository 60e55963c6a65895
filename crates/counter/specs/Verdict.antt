-- The number of each verdict, and of what a call that judges answers.
-- Assumes nothing.
use Rattle.std.specs.Prelude.{ℕ, Result}
use Rattle.counter.specs.Judging.{to_open, to_ask, nothing}
use Rattle.counter.specs.declared.Verdict.{Verdict}
use Rattle.counter.specs.declared.Verdict.TheVariants.{Open, Ask, Nothing}
use Rattle.definitions.specs.Answers.{Answer, valued}
use Rattle.refusals.specs.Told.{told}
use Rattle.refusals.specs.declared.Refusal.{Refusal}

abbrev pub verdict_number : Verdict → ℕ
verdict_number Open = to_open
verdict_number Ask = to_ask
verdict_number Nothing = nothing

abbrev pub told_verdict : Result Verdict Refusal → Answer
told_verdict r = told (λ v. valued (verdict_number v)) r
