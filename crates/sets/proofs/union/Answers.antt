-- What the sets that are gone through have is found, and the others are left.
use Rattle.sets.specs.Laws.WalkLaws.{union_to_start, union_to_next, union_to_end}
use Rattle.sets.proofs.union.Goals as goal

pub loop-q-init : goal.loop-q-init
loop-q-init c = rw c.into_iter-q-iterator.ensures (union_to_start c.none-found.ensures)

pub loop-q-preserved : goal.loop-q-preserved
loop-q-preserved c =
    let next = c.in-Some.ensures.steps in
    union_to_next c.loop-q.invariant next.taken c.set_at.ensures c.either-found.ensures next.left

pub returns : goal.returns
returns c = union_to_end c.loop-q.invariant c.in-None.ensures.steps.none
