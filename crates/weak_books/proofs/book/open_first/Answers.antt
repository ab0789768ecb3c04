-- Each state is its own class, the silent targets are found once, and nothing is lower yet.
use Rattle.weak_books.specs.Laws.RankedLaws.{lower_sets_zero}
use Rattle.weak_books.proofs.book.open_first.Goals as goal

pub open_depths-requires : goal.open_depths-requires
open_depths-requires c =
    record {
      own_numbers = c.own_numbers.ensures.0;
      targets = c.silent_targets.ensures;
      ranks = c.requires.ranks;
      book_length_in_bounds = c.requires.book_length_in_bounds;
      lower_sets = lower_sets_zero c.clear_sets.ensures;
      opened_before = c.requires.opened_before;
    }
