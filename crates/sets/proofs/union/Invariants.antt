-- What the sets that are gone through have is found, and the others are left.
use Rattle.sets.specs.Inner.Sets.{Member}
use Rattle.sets.specs.Laws.WalkLaws.{UnionTo}
use Rattle.sets.proofs.union.Given as goal

abbrev pub invariant-loop-q : goal.invariant-loop-q
invariant-loop-q l = UnionTo (Member l.sets) l.fn.of l.q-iterator.left l.found
