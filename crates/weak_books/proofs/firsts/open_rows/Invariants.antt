-- The entries of the states below p are written.
use Rattle.std.proofs.Common.{◌≤◌}
use Rattle.text.specs.Limits.{pair_place}
use Rattle.weak_books.specs.Inner.Opened.{LabelOpened}
use Rattle.weak_books.proofs.firsts.open_rows.Given as goal

abbrev pub invariant-loop-p : goal.invariant-loop-p
invariant-loop-p l =
    (l.p ≤ l.n) × LabelOpened l.targets l.lower l.at l.depth l.a 0 (pair_place l.p 0) l.initial.book l.book
