-- Whatever moves the states that are left makes up the move of all.
use Rattle.std.proofs.Common.{refl, arith}
use Rattle.splitters.specs.Laws.DividingLaws.{moved_other}
use Rattle.splitters.proofs.dividing.move_states.Goals as goal

pub loop-p-preserved : goal.loop-p-preserved
loop-p-preserved c =
    let next = c.in-Some.ensures.steps in
    λ t h. c.loop-p.invariant t (moved_other (omega (arith, next.taken.member_lt)) refl next.taken next.left h)
