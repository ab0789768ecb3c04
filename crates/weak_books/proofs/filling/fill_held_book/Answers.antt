-- The cleared book is right for round 0, and what the rounds leave keeps the promise: the table is filled from the tree
-- that the last round leaves.
-- ---- places of the function
use Rattle.held.specs.Laws.ListedLaws.{held_list}
use Rattle.std.proofs.Common.{◌∙◌, refl, arith}
use Rattle.text.specs.Laws.ListsLaws.{past_trans}
use Rattle.held.specs.Laws.HeldLaws.{held_move_game}
use Rattle.ranking.specs.Laws.RoundsLaws.{ranked_of_finished}
use Rattle.books.specs.Laws.RowsLaws.{empty_of_cleared}
use Rattle.splitters.specs.Laws.PartitionLaws.{partition_of}
use Rattle.splitters.specs.Laws.RoundLaws.{rounds-zero, tree_of_last, member_sets_of_last, finished_of_last}
use Rattle.splitters.specs.Laws.StatesLaws.{partition_at}
use Rattle.weak_books.specs.Laws.BookUpToLaws.{book_up_to-zero, book_filled_of_settled}
use Rattle.weak_books.proofs.filling.fill_held_book.Goals as goal

pub one_class-tree-requires : goal.one_class-tree-requires
one_class-tree-requires c =
    let L = held_list c.args.moves in
    (L.some_state, L.states_le)

pub book_rounds-requires : goal.book_rounds-requires
book_rounds-requires c =
    let one = c.one_class-tree in record {
      into = c.note_labels.ensures;
      rounds = (
        one.ensures.states,
        rounds-zero one.ensures.no_round one.ensures.zeros
            (partition_at one.ensures.states (partition_of one.result.parts.partition)),
      );
      book_length_in_bounds = (
        omega (arith, c.requires.table_length_in_bounds.1, c.clear-2.ensures.past.same_length),
        rw one.ensures.no_round.0 (book_up_to-zero (held_list c.args.moves).states_le (empty_of_cleared c.clear-2.ensures)),
      );
    }

pub fill_table-requires : goal.fill_table-requires
fill_table-requires c =
    let limit = (held_list c.args.moves).states_le in
    let R = c.book_rounds.ensures.rounded.rounded in record {
      n_le_state_limit = (
        limit,
        omega (arith, limit, R.ready.partition.classes_le),
        omega (arith, c.requires.table_length_in_bounds.0, c.clear.ensures.past.same_length),
      );
      tree = tree_of_last R refl;
      member_sets = (member_sets_of_last R refl, R.ready.grown.under);
    }

pub shape_of-table : goal.shape_of-table
shape_of-table c =
    c.fill_table.auto.table
    ∙ c.clear.ensures.past.same_length

pub shape_of-book : goal.shape_of-book
shape_of-book c =
    c.book_rounds.ensures.past.same_length ∙ c.clear-2.ensures.past.same_length

pub returns : goal.returns
returns c =
    let L = held_list c.args.moves in
    let same = c.fill_table.auto.table ∙ c.clear.ensures.past.same_length in
    let finished = finished_of_last c.book_rounds.ensures.rounded.rounded refl
    c.book_rounds.ensures.rounded.separates c.fill_table.ensures.by_index c.fill_table.ensures.outside in
    record {
      ranked = ranked_of_finished (held_move_game L) L.some_state L.states_le c.clear.ensures finished same;
      book_filled = book_filled_of_settled (held_move_game L) finished.settled c.book_rounds.ensures.entries
          (past_trans c.clear-2.ensures.past c.book_rounds.ensures.past);
    }
