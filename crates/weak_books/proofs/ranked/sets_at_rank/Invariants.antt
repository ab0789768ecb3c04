-- The sets below p have the states of rank r.
use Rattle.std.proofs.Common.{◌≤◌}
use Rattle.weak_books.specs.Inner.RankSets.{AtRank}
use Rattle.weak_books.proofs.ranked.sets_at_rank.Given as goal

abbrev pub invariant-loop-p : goal.invariant-loop-p
invariant-loop-p l = (l.p ≤ l.n) × AtRank l.n l.table l.r l.p l.sets
