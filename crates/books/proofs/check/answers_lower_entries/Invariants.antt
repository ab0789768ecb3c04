-- The target at each place of the group before place i leads to an entry of lower depth.
use Rattle.std.proofs.Common.{ℕ, ◌≤◌, ◌<◌, get_or}
use Rattle.lts.specs.Book.{LowerEntry}
use Rattle.books.specs.Books.{book_of}
use Rattle.books.specs.Inner.Sides.{BySide}
use Rattle.books.proofs.check.answers_lower_entries.Given as goal

abbrev pub invariant-loop-i : goal.invariant-loop-i
invariant-loop-i l =
    (k : ℕ) → k < l.i → l.initial.i ≤ k → BySide l.side (LowerEntry (book_of l.book) l.depth) l.t.0
    (get_or l.indexed.targets.now k 0)
