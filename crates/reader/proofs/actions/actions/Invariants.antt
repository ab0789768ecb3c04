-- After i lines the store holds i actions, and what remains reads as the whole does.
use Rattle.reader.specs.Inner.ReadSoFar.{AfterActions}
use Rattle.reader.proofs.actions.actions.Given as goal

abbrev pub invariant-loop-i : goal.invariant-loop-i
invariant-loop-i l = AfterActions l.head l.text l.from l.i l.out
