-- The entries of the states that are not left, and lower ones, are written.
use Rattle.std.proofs.Common.{ℕ}
use Rattle.sets.specs.Inner.SetValues.{In}
use Rattle.held.specs.Moves.{held_moves}
use Rattle.weak_books.specs.Inner.Entering.{Entered, SeparatedBelow, Done}
use Rattle.weak_books.proofs.entering.enter_round.Given as goal

abbrev pub invariant-loop-p : goal.invariant-loop-p
invariant-loop-p l =
    ((x : ℕ) → In l.p-iterator.left x → In l.fn.states x)
    × Entered (held_moves l.moves) l.class l.depth
    (Done (SeparatedBelow l.moves.n l.class l.next) (λ x y. x) l.p-iterator.left) l.initial.book
    l.book
