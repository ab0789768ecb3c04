-- The entries before that of p and q are written.
use Rattle.std.proofs.Common.{◌≤◌}
use Rattle.text.specs.Limits.{pair_place}
use Rattle.weak_books.specs.Inner.Turned.{AllTurned}
use Rattle.weak_books.proofs.seconds.turn_row.Given as goal

abbrev pub invariant-loop-q : goal.invariant-loop-q
invariant-loop-q l =
    (l.q ≤ l.n) × AllTurned l.n l.table (pair_place l.p.0 0) (pair_place l.p.0 l.q) l.initial.book l.book
