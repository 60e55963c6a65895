-- The numbers of an answer as they cross to C.
-- Assumes nothing.
use Rattle.std.specs.Prelude.{◌<◌}
use Rattle.definitions.specs.Answers.{Answer}
use Rattle.crossing.specs.declared.Answer as crossing

-- field by field
abbrev pub answer_of : crossing.Answer → Answer
answer_of a =
    record { number = a.number; place = a.place; count = a.count; value = a.value; cost = a.cost; bound = a.bound }

-- every number fits sixteen bits
pub record Narrow (a : Answer) : Type 0 where
  pub place : a.place < 65536
  pub count : a.count < 65536
  pub value : a.value < 65536
  pub cost : a.cost < 65536
  pub bound : a.bound < 65536
