-- The states below q whose rank beside p is r are added.
use Rattle.std.proofs.Common.{◌≡◌, ◌≤◌, length}
use Rattle.sets.specs.Inner.Sets.{Joined}
use Rattle.weak_books.specs.Laws.RankedLaws.{RowAtRank}
use Rattle.weak_books.proofs.ranked.row_at_rank.Given as goal

abbrev pub invariant-loop-q : goal.invariant-loop-q
invariant-loop-q l =
    (l.q ≤ l.n) × (length l.sets ≡ length l.initial.sets) × Joined l.p.0 (RowAtRank l.table l.r l.p.0 l.q)
    l.initial.sets l.sets
