-- After k rounds the book has the entries of the pairs that these separated, and a further round finds what it needs.
use Rattle.held.specs.Moves.{held_moves}
use Rattle.std.proofs.Common.{◌≡◌, ◌-◌}
use Rattle.weak_books.specs.Inner.Entering.{Booked}
use Rattle.weak_books.proofs.filling.book_rounds.Given as goal

abbrev pub invariant-loop : goal.invariant-loop
invariant-loop l =
    (l.tree.parts.n ≡ l.moves.n) × Booked (held_moves l.moves) l.moves.n l.tree.k l.tree.first l.initial.book
    l.book l.tree.parts.class l.tree.parts.members l.tree.parts.origin l.tree.under l.tree.when l.tree.parts.classes
    l.tree.parts.together

abbrev pub decreases-loop : goal.decreases-loop
decreases-loop l = l.moves.n - l.tree.parts.classes
