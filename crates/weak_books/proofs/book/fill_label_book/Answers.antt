-- In the cleared book the first sides open, and then the second ones where the first cannot.
use Rattle.std.proofs.Common.{arith}
use Rattle.text.specs.Laws.ListsLaws.{past_trans}
use Rattle.books.specs.Laws.RowsLaws.{empty_of_cleared}
use Rattle.silent.specs.Laws.LabelledLaws.{label_move_game}
use Rattle.weak_books.specs.Laws.DepthLaws.{opened_before_start}
use Rattle.weak_books.specs.Laws.FilledLaws.{label_move_label_lt, book_filled_of_turned}
use Rattle.weak_books.proofs.book.fill_label_book.Goals as goal

pub open_first-requires : goal.open_first-requires
open_first-requires c =
    record {
      ranks = c.requires.ranks;
      book_length_in_bounds = omega (arith, c.clear.ensures.past.same_length, c.requires.book_length_in_bounds);
      opened_before = opened_before_start c.args.steps.listed.states_le (empty_of_cleared c.clear.ensures);
    }

pub turn_rows-requires : goal.turn_rows-requires
turn_rows-requires c =
    let same = past_trans c.clear.ensures.past c.open_first.ensures.past in (
      c.args.steps.listed.states_le,
      c.requires.ranks.1,
      omega
          (arith, same.same_length, c.requires.book_length_in_bounds),
    )

pub returns : goal.returns
returns c =
    let L = c.args.steps.listed in
    book_filled_of_turned (label_move_game L) (label_move_label_lt L) L.states_le c.requires.ranks.0 c.requires.by_index
    c.open_first.ensures.opened_before_2 c.turn_rows.ensures
    (past_trans c.clear.ensures.past c.open_first.ensures.past)
