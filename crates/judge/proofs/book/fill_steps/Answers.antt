-- The steps that are listed have the low steps' ranks and their book.
use Rattle.std.proofs.Common.{◌≡◌, ◌∙◌}
use Rattle.model.specs.StoredModel.{model_at}
use Rattle.model.specs.Laws.System.StoredLaws.{stored_states}
use Rattle.by_state.specs.Laws.MoveListLaws.{move_list_of_lists}
use Rattle.books.specs.Laws.ListedLaws.{ordered_of_lists, book_filled_of_listed}
use Rattle.judge.specs.Laws.StoreBooksLaws.{ranks_of_lists}
use Rattle.judge.proofs.book.fill_steps.Goals as goal
use Rattle.judge.proofs.book.fill_steps.Goals.{After-states}

states_is : (c : After-states) → c.states.result ≡ (model_at c.args.store.now).head.states
states_is c = c.states.ensures ∙ stored_states c.requires.stored

pub invariant_of-moves : goal.invariant_of-moves
invariant_of-moves c =
    let e = states_is (goal.at.invariant_of-moves c).After-states in
    record {
      listed = move_list_of_lists c.list_store_moves.ensures.lists e;
      ordered = ordered_of_lists c.list_store_moves.ensures.lists e c.list_store_moves.ensures.ordered;
    }

pub fill_book-requires : goal.fill_book-requires
fill_book-requires c =
    let e = states_is (goal.at.fill_book-requires c).After-states in
    record {
      ranks = (ranks_of_lists c.list_store_moves.ensures.lists e c.requires.ranks.0, c.requires.ranks.1);
      book_length_in_bounds = c.requires.book_length_in_bounds;
    }

pub returns : goal.returns
returns c =
    let moves = c.list_store_moves.ensures.lists in
    book_filled_of_listed moves (states_is (goal.at.returns c).After-states) c.fill_book.ensures
