-- The first bit of the first word goes, or else of the second.
use Rattle.std.proofs.Common.{arith}
use Rattle.sets.specs.Laws.EndsLaws.{taken_low, taken_high}
use Rattle.sets.proofs.set.Set.pop.Goals as goal

pub returns-then-self-ne0 : goal.returns-then-self-ne0
returns-then-self-ne0 c = taken_low (omega arith) c.if-self-ne0.true

pub returns-then-self-ne0-2 : goal.returns-then-self-ne0-2
returns-then-self-ne0-2 c = taken_high c.if-self-ne0.false (omega arith) c.if-self-ne0-2.true
