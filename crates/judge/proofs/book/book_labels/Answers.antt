-- The steps that are listed by label have the model's ranks and its book.
use mathlib.Core.Path.{◌∙◌}
use Rattle.model.specs.Laws.System.StoredLaws.{stored_states}
use Rattle.judge.specs.Laws.StoreBooksLaws.{ranks_of_labels, book_filled_of_labels}
use Rattle.judge.proofs.book.book_labels.Goals as goal

pub fill_books-requires : goal.fill_books-requires
fill_books-requires c =
    let e = c.states-n.ensures ∙ stored_states c.requires.stored in
    record {
      table_length_in_bounds = c.requires.table_length_in_bounds;
    }

pub returns : goal.returns
returns c =
    let e = c.states-n.ensures ∙ stored_states c.requires.stored in
    let ranks = c.fill_books.ensures.ranks in
    record {
      ranks = ranks_of_labels c.list_store_labels.ensures e ranks.0;
      table_past = ranks.1;
      book_filled = book_filled_of_labels c.list_store_labels.ensures e c.fill_books.ensures.book_filled;
    }
