-- The steps that are listed are the model's, and none is silent, so the same books are sound.
use Rattle.std.proofs.Common.{◌∙◌}
use Rattle.model.specs.Laws.System.StoredLaws.{stored_states}
use Rattle.by_state.specs.Laws.MoveListLaws.{move_list_of_lists}
use Rattle.books.specs.Laws.ListedLaws.{ordered_of_lists, check_done_of_listed}
use Rattle.judge.proofs.check.check_steps.Goals as goal

pub invariant_of-moves : goal.invariant_of-moves
invariant_of-moves c =
    let e = c.states.ensures ∙ stored_states c.requires.stored in
    record {
      listed = move_list_of_lists c.list_store_moves.ensures.lists e;
      ordered = ordered_of_lists c.list_store_moves.ensures.lists e c.list_store_moves.ensures.ordered;
    }

pub returns : goal.returns
returns c =
    let e = c.states.ensures ∙ stored_states c.requires.stored in
    check_done_of_listed c.list_store_moves.ensures.lists e c.requires.by_index c.check_book.ensures
