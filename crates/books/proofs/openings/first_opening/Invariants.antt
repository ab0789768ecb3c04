-- None of the moves before place i can be answered only so.
use Rattle.std.proofs.Common.{ℕ, ◌≤◌, ◌<◌, get_or}
use Rattle.by_state.specs.MoveList.{Listed}
use Rattle.books.specs.Inner.Openings.{LowerAnswers}
use Rattle.books.proofs.openings.first_opening.Given as goal

abbrev pub invariant-loop-i : goal.invariant-loop-i
invariant-loop-i l =
    let moves = l.indexed in
    (j : ℕ) → j < l.i → l.initial.i ≤ j
    → ¬ (LowerAnswers (Listed moves.n moves.first.now moves.actions.now moves.targets.now) l.table l.depth l.q.0
    (get_or moves.actions.now j 0) (get_or moves.targets.now j 0))
