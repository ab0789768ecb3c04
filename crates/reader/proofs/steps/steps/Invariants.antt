-- After j lines the store holds j steps, and what remains reads as the whole does: `ReadStepsLaws` takes that past a
-- line.
use Rattle.reader.specs.Inner.ReadSoFar.{AfterStep}
use Rattle.reader.proofs.steps.steps.Given as goal

abbrev pub invariant-loop-j : goal.invariant-loop-j
invariant-loop-j l = AfterStep l.head l.text l.from l.j l.last l.out
