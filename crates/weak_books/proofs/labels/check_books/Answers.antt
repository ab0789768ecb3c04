-- What is found of the book by the moves that are held is found by the steps that they are held for.
use Rattle.std.proofs.lemmas.Grind.{merely}
use Rattle.text.specs.Laws.ListLaws.{get_or-zeros}
use Rattle.sets.specs.Laws.SetsLaws.{empty-zeros}
use Rattle.held.specs.Held.{slots_length, pool_length}
use Rattle.held.specs.Laws.ZeroLaws.{pooled_zero}
use Rattle.weak_books.specs.Laws.HeldBooksLaws.{check_done_of_held}
use Rattle.weak_books.proofs.labels.check_books.Goals as goal

pub invariant_of-moves : goal.invariant_of-moves
invariant_of-moves c = record { held = merely c.in-Some.ensures.held_list }

pub hold_labels-requires : goal.hold_labels-requires
hold_labels-requires c =
    record {
      pooled = pooled_zero (get_or-zeros slots_length) (empty-zeros pool_length);
    }

pub check_held_book-requires : goal.check_held_book-requires
check_held_book-requires c =
    record {
      book_length_in_bounds = c.requires.book_length_in_bounds;
    }

pub returns-then-has_many_moves : goal.returns-then-has_many_moves
returns-then-has_many_moves c =
    check_done_of_held c.in-Some.ensures.held_as c.check_held_book.ensures

pub check_entries-requires : goal.check_entries-requires
check_entries-requires c =
    record {
      book_length_in_bounds = c.requires.book_length_in_bounds;
    }

pub returns-in-Some : goal.returns-in-Some
returns-in-Some c =
    check_done_of_held c.in-Some.ensures.held_as c.check_entries.ensures
