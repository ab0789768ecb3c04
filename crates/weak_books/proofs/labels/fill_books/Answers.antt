-- The moves that are held have the ranks and the book of the steps that they are held for.
use Rattle.std.proofs.lemmas.Grind.{merely}
use native.Mathlib.Omega.{arith}
use Rattle.text.specs.Laws.ListLaws.{get_or-zeros}
use Rattle.sets.specs.Laws.SetsLaws.{empty-zeros}
use Rattle.held.specs.Held.{slots_length, pool_length}
use Rattle.held.specs.Laws.ZeroLaws.{pooled_zero}
use Rattle.ranking.specs.Laws.RankedLaws.{ranked_entry_le}
use Rattle.splitters.specs.Laws.HeldRanksLaws.{ranked_of_held}
use Rattle.weak_books.specs.Laws.HeldBooksLaws.{book_filled_of_held}
use Rattle.weak_books.proofs.labels.fill_books.Goals as goal

pub invariant_of-moves : goal.invariant_of-moves
invariant_of-moves c = record { held = merely c.in-Some.ensures.held_list }

pub hold_labels-requires : goal.hold_labels-requires
hold_labels-requires c =
    record {
      pooled = pooled_zero (get_or-zeros slots_length) (empty-zeros pool_length);
    }

pub fill_held_book-requires : goal.fill_held_book-requires
fill_held_book-requires c =
    record {
      table_length_in_bounds = c.requires.table_length_in_bounds;
    }

pub returns-in-Some : goal.returns-in-Some
returns-in-Some c =
    let held = c.in-Some.ensures.held_as in
    let ranks = ranked_of_held held c.fill_held_book.ensures.ranked in
    record {
      ranks = (ranks.table, ranks.past);
      book_filled = book_filled_of_held held c.fill_held_book.ensures.book_filled;
    }

pub fill_label_book-requires : goal.fill_label_book-requires
fill_label_book-requires c =
    record {
      ranks = (
        c.rank_labels-top.ensures.table,
        omega (
          arith,
          c.rank_labels-top.ensures.past.same_length,
          c.requires.table_length_in_bounds.0,
        ),
      );
      by_index = ranked_entry_le c.rank_labels-top.ensures;
      book_length_in_bounds = c.requires.table_length_in_bounds.1;
    }
