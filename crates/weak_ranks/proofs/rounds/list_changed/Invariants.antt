-- The states below p whose class changes are listed.
use Rattle.std.proofs.Common.{◌≤◌}
use Rattle.ranking.specs.Inner.ClassList.{Changed}
use Rattle.weak_ranks.proofs.rounds.list_changed.Given as goal

abbrev pub invariant-loop-p : goal.invariant-loop-p
invariant-loop-p l = (l.count ≤ l.p) × Changed l.p l.class l.next l.list l.count
