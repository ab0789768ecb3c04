-- The entries of the depths up to this one are written, and the states of these ranks are lower.
use Rattle.std.proofs.Common.{◌+◌, ◌≤◌}
use Rattle.text.specs.Limits.{book_length}
use Rattle.text.specs.Lists.{Past}
use Rattle.silent.specs.Steps.{label_moves}
use Rattle.weak_books.specs.Inner.RankSets.{LowerSets}
use Rattle.weak_books.specs.Inner.Opened.{OpenedBefore}
use Rattle.weak_books.proofs.book.open_depths.Given as goal

abbrev pub invariant-loop-depth : goal.invariant-loop-depth
invariant-loop-depth l =
    (l.depth ≤ l.top) × LowerSets l.steps.n l.table (l.depth + 1) l.lower
    × OpenedBefore (label_moves l.steps) l.steps.n l.table (l.depth + 1) l.book × Past book_length
    l.initial.book l.book
