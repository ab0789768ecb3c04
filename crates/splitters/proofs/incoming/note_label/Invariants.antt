-- Each state of the row's set that is gone through has got the label, and the others are left.
use Rattle.splitters.specs.Laws.IncomingLaws.{NotedBut}
use Rattle.splitters.proofs.incoming.note_label.Given as goal

abbrev pub invariant-loop-q : goal.invariant-loop-q
invariant-loop-q l = NotedBut l.moves.pool.now l.row l.i l.q-iterator.left l.initial.into l.into
