-- The sets below p have got the members.
use Rattle.std.proofs.Common.{◌≡◌, ◌≤◌, length}
use Rattle.weak_books.specs.Inner.RankSets.{JoinedBelow}
use Rattle.weak_books.proofs.ranked.join_each.Given as goal

abbrev pub invariant-loop-p : goal.invariant-loop-p
invariant-loop-p l =
    (l.p ≤ l.n) × (length l.sets ≡ length l.initial.sets) × JoinedBelow l.p l.others l.initial.sets l.sets
