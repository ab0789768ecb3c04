-- What the states that are gone through hold is found, and the others are left.
use Rattle.held.specs.Held.{HeldAt}
use Rattle.sets.specs.Laws.WalkLaws.{UnionTo}
use Rattle.splitters.proofs.leading.joint.Given as goal

abbrev pub invariant-loop-t : goal.invariant-loop-t
invariant-loop-t l = UnionTo (HeldAt l.slots l.pool l.row) l.fn.set l.t-iterator.left l.found
