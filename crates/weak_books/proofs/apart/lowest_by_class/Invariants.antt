-- The targets of p that are no targets of q are tried from the lowest up, each class once.
use Rattle.std.proofs.Common.{◌-◌}
use Rattle.text.specs.Limits.{state_limit}
use Rattle.sets.specs.Inner.SetValues.{LeastOf}
use Rattle.weak_books.specs.Inner.Entering.{OtherClass}
use Rattle.weak_books.specs.Inner.OpensTo.{Tried}
use Rattle.weak_books.proofs.apart.lowest_by_class.Given as goal

abbrev pub invariant-loop-t : goal.invariant-loop-t
invariant-loop-t l =
    LeastOf l.left l.t × Tried (OtherClass l.class) l.answers l.initial.left l.left

abbrev pub decreases-loop-t : goal.decreases-loop-t
decreases-loop-t l = state_limit - l.t
