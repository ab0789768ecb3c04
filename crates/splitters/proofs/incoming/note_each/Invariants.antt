-- The first i labels are noted.
use Rattle.std.proofs.Common.{◌-◌}
use Rattle.splitters.specs.Inner.Splitters.{Into}
use Rattle.splitters.proofs.incoming.note_each.Given as goal

abbrev pub invariant-loop-i : goal.invariant-loop-i
invariant-loop-i l = Into l.moves.labels.now l.i l.moves.slots.now l.into

abbrev pub decreases-loop-i : goal.decreases-loop-i
decreases-loop-i l = l.moves.count - l.i
