-- The labels that are not left are used: at first those that do not lead into the class, which divide nothing by it.
use Rattle.std.proofs.Common.{◌≡◌, ◌≤◌}
use Rattle.splitters.specs.Inner.MoveSplits.{UsedSplit}
use Rattle.splitters.specs.Laws.RefiningLaws.{UsedBut}
use Rattle.splitters.proofs.refining.refine_class.Given as goal

abbrev pub invariant-loop-i : goal.invariant-loop-i
invariant-loop-i l =
    (l.parts.n ≡ l.initial.parts.n) × (l.initial.parts.classes ≤ l.parts.classes)
    × UsedSplit l.initial.parts.n l.old l.moves.slots.now l.moves.pool.now
    (UsedBut l.j l.moves.labels.now l.moves.count l.i-iterator.left) l.fresh l.rest l.initial.parts.class
    l.initial.parts.origin l.parts.class l.parts.origin
