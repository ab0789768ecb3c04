-- The steps that are listed by label are the model's, so the same books are sound.
use mathlib.Core.Path.{◌∙◌}
use Rattle.model.specs.Laws.System.StoredLaws.{stored_states}
use Rattle.judge.specs.Laws.StoreBooksLaws.{check_done_of_labels}
use Rattle.judge.proofs.check.check_labels.Goals as goal

pub check_books-requires : goal.check_books-requires
check_books-requires c =
    let e = c.states-n.ensures ∙ stored_states c.requires.stored in
    record {
      book_length_in_bounds = c.requires.book_length_in_bounds;
    }

pub returns : goal.returns
returns c =
    let e = c.states-n.ensures ∙ stored_states c.requires.stored in
    check_done_of_labels c.list_store_labels.ensures e c.check_books.ensures
