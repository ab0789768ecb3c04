-- The entries of p and the states below q are written.
use Rattle.by_state.specs.MoveList.{Listed}
use Rattle.books.specs.Inner.Filling.{RowFilled}
use Rattle.books.proofs.book.fill_row.Given as goal

abbrev pub invariant-loop-q : goal.invariant-loop-q
invariant-loop-q l =
    let moves = l.indexed in
    RowFilled (Listed moves.n moves.first.now moves.actions.now moves.targets.now) l.p.0 l.q l.initial.book l.book
