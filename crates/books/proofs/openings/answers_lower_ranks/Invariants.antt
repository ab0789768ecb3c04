-- The target at each place of the group before place i leads to a rank above 0 and below the depth.
use Rattle.std.proofs.Common.{ℕ, ◌≤◌, ◌<◌, get_or}
use Rattle.ranking.specs.Inner.LowerRanks.{RankIn}
use Rattle.books.proofs.openings.answers_lower_ranks.Given as goal

abbrev pub invariant-loop-i : goal.invariant-loop-i
invariant-loop-i l =
    (k : ℕ) → k < l.i → l.initial.i ≤ k → RankIn l.table l.depth l.t.0 (get_or l.indexed.targets.now k 0)
