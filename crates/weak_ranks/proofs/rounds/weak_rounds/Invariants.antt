-- After k rounds the classes are those of k-alike states and the table has what these rounds found; each of them
-- separated a pair, so there are fewer than states.
use Rattle.std.proofs.Common.{◌-◌}
use Rattle.silent.specs.Steps.{label_moves}
use Rattle.weak_ranks.proofs.WeakRoundsParts.{Rounds}
use Rattle.weak_ranks.proofs.rounds.weak_rounds.Given as goal

abbrev pub invariant-loop-class : goal.invariant-loop-class
invariant-loop-class l =
    Rounds (label_moves l.steps) l.steps.n l.k l.initial.table l.table l.class

abbrev pub decreases-loop-class : goal.decreases-loop-class
decreases-loop-class l = l.steps.n - l.k
