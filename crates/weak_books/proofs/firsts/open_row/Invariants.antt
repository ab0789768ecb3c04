-- The entries before the next pair of the row are written.
use Rattle.std.proofs.Common.{ℕ}
use Rattle.text.specs.Limits.{pair_place}
use Rattle.sets.specs.Inner.SetValues.{LeastOf}
use Rattle.weak_books.specs.Inner.Opened.{LabelOpened, MembersLeft}
use Rattle.weak_books.proofs.firsts.open_row.Given as goal

abbrev pub invariant-loop-q : goal.invariant-loop-q
invariant-loop-q l =
    (q : ℕ) → LeastOf l.q-iterator.left q → MembersLeft l.at l.p.0 q l.q-iterator.left
    × LabelOpened l.targets l.lower l.at l.depth l.a (pair_place l.p.0 0) (pair_place l.p.0 q) l.initial.book l.book
