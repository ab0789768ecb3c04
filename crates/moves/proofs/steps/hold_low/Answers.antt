-- The low ones of all steps are held.
use Rattle.std.proofs.Common.{arith}
use Rattle.moves.specs.Laws.HeldStepsLaws.{held_list_of_low, held_as_of_low}
use Rattle.moves.proofs.steps.hold_low.Goals as goal

pub returns-clause-held_list : goal.returns-clause-held_list
returns-clause-held_list c =
    held_list_of_low c.args.store.store.stored c.list_low.ensures c.loop-j.invariant.held (omega arith)
    c.loop-j.invariant.separate

pub returns-clause-held_as : goal.returns-clause-held_as
returns-clause-held_as c =
    held_as_of_low c.args.store.store.stored c.list_low.ensures c.loop-j.invariant.held (omega arith)
