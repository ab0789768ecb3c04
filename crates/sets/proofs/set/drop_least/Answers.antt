-- The first bit of the first word goes, or else of the second.
use native.Mathlib.Omega.{arith}
use Rattle.sets.specs.Laws.EndsLaws.{dropped_low, dropped_second, dropped_none}
use Rattle.sets.proofs.set.drop_least.Goals as goal

pub returns-then-a-ne0 : goal.returns-then-a-ne0
returns-then-a-ne0 c p m = dropped_low p m (omega arith) c.if-a-ne0.true

pub returns-then-a-ne0-2 : goal.returns-then-a-ne0-2
returns-then-a-ne0-2 c p m =
    dropped_second p m c.if-a-ne0.false (omega arith) c.if-a-ne0-2.true

pub returns : goal.returns
returns c p m = dropped_none p m c.if-a-ne0.false c.if-a-ne0-2.false
