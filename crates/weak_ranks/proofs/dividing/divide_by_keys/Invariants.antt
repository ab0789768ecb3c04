-- The classes of the states below p are divided.
use Rattle.weak_ranks.specs.Inner.Dividing.{DividedUpTo}
use Rattle.weak_ranks.proofs.dividing.divide_by_keys.Given as goal

abbrev pub invariant-loop-p : goal.invariant-loop-p
invariant-loop-p l = DividedUpTo l.keys l.initial.class l.class l.link l.p
