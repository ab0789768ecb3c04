-- The entries of the states below p are written.
use Rattle.std.proofs.Common.{◌≤◌}
use Rattle.text.specs.Limits.{pair_place}
use Rattle.weak_books.specs.Inner.Turned.{AllTurned}
use Rattle.weak_books.proofs.seconds.turn_rows.Given as goal

abbrev pub invariant-loop-p : goal.invariant-loop-p
invariant-loop-p l = (l.p ≤ l.n) × AllTurned l.n l.table 0 (pair_place l.p 0) l.initial.book l.book
