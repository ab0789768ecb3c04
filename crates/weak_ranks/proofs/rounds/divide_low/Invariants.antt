-- The classes are divided by the silent label and the actions below a.
use Rattle.silent.specs.Steps.{label_moves}
use Rattle.weak_ranks.specs.Inner.Dividing.{LeadClasses, LabelBelow, DividedUnder}
use Rattle.weak_ranks.proofs.rounds.divide_low.Given as goal

abbrev pub invariant-loop-a : goal.invariant-loop-a
invariant-loop-a l =
    LeadClasses l.steps.n l.next
    × DividedUnder (label_moves l.steps) (LabelBelow l.a) l.steps.n l.class l.next
