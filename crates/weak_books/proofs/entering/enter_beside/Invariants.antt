-- The entries of p and the members that are not left are written.
use Rattle.std.proofs.Common.{ℕ}
use Rattle.sets.specs.Inner.SetValues.{In}
use Rattle.held.specs.Moves.{held_moves}
use Rattle.weak_books.specs.Inner.Entering.{Entered, Beside, Done}
use Rattle.weak_books.proofs.entering.enter_beside.Given as goal

abbrev pub invariant-loop-q : goal.invariant-loop-q
invariant-loop-q l =
    ((x : ℕ) → In l.q-iterator.left x → In l.fn.others x)
    × Entered (held_moves l.moves) l.class l.depth
    (Done (Beside l.p.0 l.fn.others) (λ x y. y) l.q-iterator.left) l.initial.book l.book
