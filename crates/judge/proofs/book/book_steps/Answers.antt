-- The ranks and the book of the low steps are those of the model, since no step is silent; where no rank is above 0 the
-- cleared book is this one.
-- ---- places of the function
use native.Mathlib.Omega.{arith}
use Rattle.moves.specs.Laws.LabelsLaws.{ranked_of_steps}
use Rattle.books.specs.Laws.RowsLaws.{book_filled_of_alike}
use Rattle.judge.specs.Laws.StoreBooksLaws.{book_filled_of_steps}
use Rattle.judge.proofs.book.book_steps.Goals as goal

pub returns-then-last-eq0 : goal.returns-then-last-eq0
returns-then-last-eq0 c =
    let ranks = ranked_of_steps c.requires.stored c.requires.by_index c.fill_plain_table-last.ensures in
    record {
      ranks = ranks.table;
      table_past = ranks.past;
      book_filled =
          book_filled_of_alike c.requires.stored.states_le ranks.greatest c.if-last-eq0.true
          c.clear.ensures;
    }

pub fill_steps-requires : goal.fill_steps-requires
fill_steps-requires c =
    record {
      stored = c.requires.stored;
      ranks = (
        c.fill_plain_table-last.ensures.table,
        omega (
          arith,
          c.fill_plain_table-last.ensures.past.same_length,
          c.requires.table_length_in_bounds.0,
        ),
      );
      book_length_in_bounds = c.requires.table_length_in_bounds.1;
    }

pub returns : goal.returns
returns c =
    let ranks = ranked_of_steps c.requires.stored c.requires.by_index c.fill_plain_table-last.ensures in
    record {
      ranks = ranks.table;
      table_past = ranks.past;
      book_filled = book_filled_of_steps c.requires.stored c.requires.by_index c.fill_steps.ensures;
    }
