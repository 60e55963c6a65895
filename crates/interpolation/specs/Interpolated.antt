-- The numbers that document 01 gives to each case of the result of interpolation.
-- Assumes nothing.
use Rattle.std.specs.Prelude.{Result}
use Rattle.definitions.specs.Answers.{Answer, interpolated}
use Rattle.interpolation.specs.declared.Interpolated.{Interpolated}
use Rattle.refusals.specs.Told.{told}
use Rattle.refusals.specs.declared.Refusal.{Refusal}

abbrev pub told_interpolated : Result Interpolated Refusal → Answer
told_interpolated r = told (λ (x : Interpolated). interpolated x.bound x.count) r
