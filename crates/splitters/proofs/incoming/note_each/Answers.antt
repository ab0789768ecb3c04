-- The first i labels are noted.
use Rattle.held.specs.Laws.ListedLaws.{held_list}
use Rattle.std.proofs.Common.{ap, ℕ, ◌+◌, arith}
use Rattle.splitters.specs.Laws.IncomingLaws.{into_next}
use Rattle.splitters.proofs.incoming.note_each.Goals as goal

pub target_row-row-requires : goal.target_row-row-requires
target_row-row-requires c =
    (held_list c.args.moves).label c.loop-i.i c.loop-i-test.true

pub note_label-requires : goal.note_label-requires
note_label-requires c =
    let room = (held_list c.args.moves).count_le in
    (c.target_row-row.ensures.1, omega (arith, c.loop-i-test.true, room))

pub loop-i-preserved : goal.loop-i-preserved
loop-i-preserved c =
    let r = ap (λ (x : ℕ). x + 1) c.target_row-row.ensures.0 in
    into_next (held_list c.args.moves).occupied r c.loop-i.invariant c.note_label.ensures
