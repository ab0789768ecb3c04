-- The openings with actions below a are written.
use Rattle.std.proofs.Common.{◌≤◌}
use Rattle.text.specs.Limits.{action_limit}
use Rattle.silent.specs.Steps.{label_moves}
use Rattle.weak_books.specs.Inner.Opened.{OpenedTo, OnlyAt}
use Rattle.weak_books.proofs.book.open_actions.Given as goal

abbrev pub invariant-loop-a : goal.invariant-loop-a
invariant-loop-a l =
    (l.a ≤ action_limit) × OpenedTo (label_moves l.steps) l.steps.n l.lower l.at l.depth l.a l.book ×
    OnlyAt l.steps.n l.at l.initial.book l.book
