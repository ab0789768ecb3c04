-- The targets of p that are no targets of q are tried from the lowest up.
use Rattle.sets.specs.Inner.Sets.{Member}
use Rattle.weak_books.specs.Inner.OpensTo.{Tried}
use Rattle.weak_books.proofs.firsts.lowest_opening.Given as goal

abbrev pub invariant-loop-t : goal.invariant-loop-t
invariant-loop-t l = Tried (Member l.lower) l.answers l.initial.t-iterator.left l.t-iterator.left
