-- No label before the i-th opens.
use Rattle.weak_books.specs.Inner.Entering.{NoneOpens}
use Rattle.weak_books.proofs.apart.find_opening.Given as goal

abbrev pub invariant-loop-i : goal.invariant-loop-i
invariant-loop-i l = NoneOpens l.moves.labels.now l.i l.moves.slots.now l.moves.pool.now l.class l.p.0 l.q.0
