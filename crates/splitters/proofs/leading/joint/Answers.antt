-- What the states that are gone through hold is found, and the others are left.
use Rattle.sets.specs.Laws.WalkLaws.{union_to_start, union_to_next, union_to_end}
use Rattle.splitters.proofs.leading.joint.Goals as goal

pub loop-t-init : goal.loop-t-init
loop-t-init c = rw c.into_iter-t-iterator.ensures (union_to_start c.none-found.ensures)

pub held-requires : goal.held-requires
held-requires c = (c.requires.0, c.in-Some.ensures.steps.taken.member_lt, c.requires.1.slot_lt)

pub loop-t-preserved : goal.loop-t-preserved
loop-t-preserved c =
    let next = c.in-Some.ensures.steps in
    union_to_next c.loop-t.invariant next.taken c.held.ensures c.either-found.ensures next.left

pub returns : goal.returns
returns c = union_to_end c.loop-t.invariant c.in-None.ensures.steps.none
