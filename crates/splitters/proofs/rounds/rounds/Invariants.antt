-- After k rounds a further one finds what it needs, and each of them separated a pair. There are more than k classes,
-- and no more than states.
use Rattle.held.specs.Moves.{held_moves}
use Rattle.std.proofs.Common.{◌≡◌, ◌-◌}
use Rattle.splitters.specs.Inner.Splitters.{Rounds}
use Rattle.splitters.proofs.rounds.rounds.Given as goal

abbrev pub invariant-loop : goal.invariant-loop
invariant-loop l =
    (l.tree.parts.n ≡ l.moves.n) × Rounds (held_moves l.moves) l.moves.n l.tree.k l.tree.first
    l.tree.parts.class l.tree.parts.members l.tree.parts.origin l.tree.under l.tree.when l.tree.parts.classes
    l.tree.parts.together

abbrev pub decreases-loop : goal.decreases-loop
decreases-loop l = l.moves.n - l.tree.parts.classes
