-- Each turn tells of the least state that is left: those that lead into the goal are found, or left.
use Rattle.sets.specs.Inner.SetValues.{words}
use Rattle.splitters.specs.Laws.LeadingLaws.{LeadingTo}
use Rattle.splitters.proofs.leading.leading.Given as goal

abbrev pub invariant-loop-p : goal.invariant-loop-p
invariant-loop-p l = LeadingTo l.slots l.pool l.row l.set l.goal l.left l.found

abbrev pub decreases-loop-p : goal.decreases-loop-p
decreases-loop-p l = words l.left
