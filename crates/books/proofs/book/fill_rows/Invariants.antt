-- The entries of the states below p are written.
use Rattle.by_state.specs.MoveList.{Listed}
use Rattle.books.specs.Inner.Filling.{EntriesFilled}
use Rattle.books.proofs.book.fill_rows.Given as goal

abbrev pub invariant-loop-p : goal.invariant-loop-p
invariant-loop-p l =
    let moves = l.indexed in
    EntriesFilled (Listed moves.n moves.first.now moves.actions.now moves.targets.now) moves.n l.p l.initial.book l.book
