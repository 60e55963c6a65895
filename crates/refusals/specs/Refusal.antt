-- The number and the place that document 01's table gives to each refusal, and document 02 to the plan (order 7) and
-- to the proposal (order 8).
-- Assumes nothing.
use Rattle.definitions.specs.Answers.{Answer, refused}
use Rattle.refusals.specs.declared.Refusal.{Refusal}
use Rattle.refusals.specs.declared.Refusal.TheVariants.{Sizes, Setting, Length, Room, Symbol, Column, Cost, Zero, Plan, Proposal}

abbrev pub told_refusal : Refusal → Answer
told_refusal Sizes = refused 1 0
told_refusal Setting = refused 2 0
told_refusal Length = refused 3 0
told_refusal Room = refused 4 0
told_refusal (Symbol place) = refused 5 place
told_refusal (Column place) = refused 6 place
told_refusal Cost = refused 7 0
told_refusal Zero = refused 8 0
told_refusal Plan = refused 9 0
told_refusal Proposal = refused 10 0
