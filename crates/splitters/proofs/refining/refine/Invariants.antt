-- The new classes below j are used; where no class has two states, the others divide nothing.
use Rattle.std.proofs.Common.{◌≡◌, ◌≤◌}
use Rattle.splitters.specs.Inner.MoveSplits.{UsedLabels, UsedSplit}
use Rattle.splitters.proofs.refining.refine.Given as goal

abbrev pub invariant-loop-j : goal.invariant-loop-j
invariant-loop-j l =
    (l.parts.n ≡ l.initial.parts.n) × (l.initial.parts.classes ≤ l.parts.classes)
    × UsedSplit l.initial.parts.n l.old l.moves.slots.now l.moves.pool.now
    (UsedLabels l.first l.j l.moves.labels.now l.moves.count) l.fresh l.rest l.initial.parts.class
    l.initial.parts.origin l.parts.class l.parts.origin
