-- One state more: its steps end where those of the next begin.
use Rattle.std.proofs.Common.{◌+◌, ◌<◌, length, length-set, refl, ◌∙◌, arith}
use Rattle.model.specs.Laws.System.IndexLaws.{index-suc}
use Rattle.model.proofs.index.index.Goals as goal

pub loop-q-preserved : goal.loop-q-preserved
loop-q-preserved c =
    let inv = c.loop-q.invariant in
    let long = c.loop-q.auto.begins ∙ length-set c.args.begins.now 0 0 in
    let F = c.args.store.stored in
    let l : c.loop-q.q + 1 < length c.loop-q.begins = omega (arith, long, F.states_le) in
    (c.end_of-from.ensures, rw c.from.ensures (index-suc refl l c.end_of-from.ensures inv.1))
