-- After i lines the store holds i extra starts, and what remains reads as the whole does: `ReadStartsLaws` takes that
-- past a line. The starts rise below the states, so the store has room for each.
use Rattle.std.proofs.Common.{◌-◌}
use Rattle.text.specs.Limits.{extra_limit}
use Rattle.reader.specs.Inner.ReadSoFar.{AfterStart}
use Rattle.reader.proofs.starts.starts.Given as goal

abbrev pub invariant-loop-head : goal.invariant-loop-head
invariant-loop-head l = AfterStart l.head l.text l.from l.i l.last.0 l.out

abbrev pub decreases-loop-head : goal.decreases-loop-head
decreases-loop-head l = extra_limit - l.i
