-- After k passes each set has the members of all states within k silent steps; no more than n - 1 are ever needed.
use Rattle.silent.specs.Steps.{label_ticks}
use Rattle.silent.specs.Inner.Loops.{ClosedWithin}
use Rattle.silent.proofs.keys.close_sets.Given as goal

abbrev pub invariant-loop-passes : goal.invariant-loop-passes
invariant-loop-passes l =
    ClosedWithin (label_ticks l.steps) l.steps.n l._passes l.initial.sets l.sets
